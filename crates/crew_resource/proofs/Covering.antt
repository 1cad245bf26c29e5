-- A part of the candidates that lies under all of them leaves the same entries.
use Rattle.std.proofs.Common.{◌≡◌, Bool, true, List, sym, ◌∙◌, subst}
use Rattle.crew_resource.specs.Members.{Member}
use Rattle.crew_resource.specs.Labels.{IsLocal}
pub use Rattle.crew_resource.specs.Labels.{IsCovering}
use Rattle.crew_resource.proofs.Order.{IsOrder}

module _ (V W : Type 0) (le : V → V → Bool) (wle : W → W → Bool) (order : IsOrder le) (walks : IsOrder wle) where
  module _ (Part Candidate : V → W → Type 0) (covering : IsCovering le wle Part Candidate) (entries : List (V × W)) where
    pub local_of_all : IsLocal le wle Part entries → IsLocal le wle Candidate entries
    local_of_all i = record {
      among = λ v w m. covering.part v w (i.among v w m);
      covers = λ x y c.
          let p = covering.under x y c in
          let k = i.covers p.0 p.1 p.2 in (
            k.0,
            k.1,
            k.2,
            order.transitive k.0 p.0 x k.3 p.3,
            λ e.
                let between : p.0 ≡ x = order.antisymmetric p.0 x p.3 (subst (λ z. le z p.0 ≡ true) e k.3) in
                walks.transitive k.1 p.1 y (k.4 (e ∙ sym between)) (p.4 between),
          );
      alone = i.alone;
    }

    entry_part : IsLocal le wle Candidate entries → (v : V) (w : W) → Member entries (v, w) → Part v w
    entry_part i v w m =
        let p = covering.under v w (i.among v w m) in
        let k = i.covers p.0 p.1 (covering.part p.0 p.1 p.2) in
        let same = i.alone k.0 k.1 v w k.2 m (order.transitive k.0 p.0 v k.3 p.3) in
        let value : p.0 ≡ v = order.antisymmetric p.0 v p.3 (subst (λ z. le z p.0 ≡ true) same.0 k.3) in
        let walk : p.1 ≡ w = walks.antisymmetric p.1 w (p.4 value) (subst (λ z. wle z p.1 ≡ true) same.1 (k.4 (same.0 ∙ sym value))) in
        subst (λ z. Part v z) walk (subst (λ z. Part z p.1) value p.2)

    pub local_of_part : IsLocal le wle Candidate entries → IsLocal le wle Part entries
    local_of_part i = record {
      among = entry_part i;
      covers = λ x y c. i.covers x y (covering.part x y c);
      alone = i.alone;
    }

  -- the same candidates
  pub covering_same : (C D : V → W → Type 0) → ((v : V) (w : W) → C v w → D v w) → ((v : V) (w : W) → D v w → C v w) → IsCovering le wle C D
  covering_same C D f g = record { part = f; under = λ x y d. (x, y, g x y d, order.reflexive x, λ _. walks.reflexive y) }

  -- local entries of a set of candidates cover it
  pub covering_local : (C : V → W → Type 0) (entries : List (V × W)) → IsLocal le wle C entries → IsCovering le wle (λ v w. Member entries (v, w)) C
  covering_local C entries i = record { part = i.among; under = i.covers }

  pub covering_trans : (C D E : V → W → Type 0) → IsCovering le wle C D → IsCovering le wle D E → IsCovering le wle C E
  covering_trans C D E p q = record {
    part = λ v w c. q.part v w (p.part v w c);
    under = λ x y e.
        let k = q.under x y e in
        let j = p.under k.0 k.1 k.2 in (
          j.0,
          j.1,
          j.2,
          order.transitive j.0 k.0 x j.3 k.3,
          λ s.
              let between : k.0 ≡ x = order.antisymmetric k.0 x k.3 (subst (λ z. le z k.0 ≡ true) s j.3) in
              walks.transitive j.1 k.1 y (j.4 (s ∙ sym between)) (k.4 between),
        );
  }

  -- the union of parts that each cover covers the union
  pub covering_union : (I : Type 0) (C D : I → V → W → Type 0) → ((i : I) → IsCovering le wle (C i) (D i))
      → IsCovering le wle (λ v w. (i : I) × C i v w) (λ v w. (i : I) × D i v w)
  covering_union I C D each = record {
    part = λ v w c. (c.0, (each c.0).part v w c.1);
    under = λ x y d.
        let k = (each d.0).under x y d.1 in
        (k.0, k.1, (d.0, k.2), k.3, k.4);
  }

  -- local entries of the same candidates are the same
  pub local_unique : (C : V → W → Type 0) (es fs : List (V × W)) → IsLocal le wle C es → IsLocal le wle C fs → (v : V) (w : W) → Member es (v, w) → Member fs (v, w)
  local_unique C es fs i j = entry_part (λ v w. Member fs (v, w)) C (covering_local C fs j) es i
