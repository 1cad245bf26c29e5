-- Covering by labels that may stand for others: reflexive, transitive, over unions.
use Rattle.std.proofs.Common.{◌≡◌, Bool, true, List, ◌++◌, ◌⊎◌, inl, inr, sym, subst, ⊎_elim}
use Rattle.crew_resource.specs.Members.{Member}
use Rattle.crew_resource.specs.Labels.{IsLocal, IsCovering}
use Rattle.crew_resource.proofs.Order.{IsOrder}
use Rattle.crew_resource.proofs.Members.{Member-append, Member-append_left, Member-append_right}
use Rattle.crew_forgetful.specs.Forgetful.{StandsFor, Covers, IsPool}

module _ (V W : Type 0) (le same : V → V → Bool) (wle : W → W → Bool) (order : IsOrder le) (walks : IsOrder wle)
    (same_itself : (a : V) → same a a ≡ true)
    (same_between : (a b c : V) → le a b ≡ true → le b c ≡ true → same a c ≡ true → (same a b ≡ true) × (same b c ≡ true)) where
  same_where_equal : (a b : V) → a ≡ b → same a b ≡ true
  same_where_equal a b e = subst (λ z. same a z ≡ true) e (same_itself a)

  pub stands_refl : (v : V) (w : W) → StandsFor le same wle v w v w
  stands_refl v w = (order.reflexive v, λ _. walks.reflexive w)

  pub stands_trans : (a : V) (p : W) (b : V) (q : W) (c : V) (r : W) → StandsFor le same wle a p b q → StandsFor le same wle b q c r → StandsFor le same wle a p c r
  stands_trans a p b q c r h k = (
    order.transitive a b c h.0 k.0,
    λ e. let m = same_between a b c h.0 k.0 e in walks.transitive p q r (h.1 m.0) (k.1 m.1),
  )

  pub stands_antisym : (a : V) (p : W) (b : V) (q : W) → StandsFor le same wle a p b q → StandsFor le same wle b q a p → (a ≡ b) × (p ≡ q)
  stands_antisym a p b q h k =
      let equal : a ≡ b = order.antisymmetric a b h.0 k.0 in
      (equal, walks.antisymmetric p q (h.1 (same_where_equal a b equal)) (k.1 (same_where_equal b a (sym equal))))

  pub covers_refl : (C : V → W → Type 0) → Covers le same wle C C
  covers_refl C = record { part = λ v w c. c; under = λ x y c. (x, y, c, stands_refl x y) }

  pub covers_trans : (C D E : V → W → Type 0) → Covers le same wle C D → Covers le same wle D E → Covers le same wle C E
  covers_trans C D E p q = record {
    part = λ v w c. q.part v w (p.part v w c);
    under = λ x y e.
        let k = q.under x y e in
        let j = p.under k.0 k.1 k.2 in
        (j.0, j.1, j.2, stands_trans j.0 j.1 k.0 k.1 x y j.3 k.3);
  }

  -- the same candidates
  pub covers_same : (C D : V → W → Type 0) → ((v : V) (w : W) → C v w → D v w) → ((v : V) (w : W) → D v w → C v w) → Covers le same wle C D
  covers_same C D f g = record { part = f; under = λ x y d. (x, y, g x y d, stands_refl x y) }

  -- the union of parts that each cover covers the union
  pub covers_union : (I : Type 0) (C D : I → V → W → Type 0) → ((i : I) → Covers le same wle (C i) (D i))
      → Covers le same wle (λ v w. (i : I) × C i v w) (λ v w. (i : I) × D i v w)
  covers_union I C D each = record {
    part = λ v w c. (c.0, (each c.0).part v w c.1);
    under = λ x y d.
        let k = (each d.0).under x y d.1 in
        (k.0, k.1, (d.0, k.2), k.3);
  }

  pub covers_both : (C D C' D' : V → W → Type 0) → Covers le same wle C D → Covers le same wle C' D' → Covers le same wle (λ v w. C v w ⊎ C' v w) (λ v w. D v w ⊎ D' v w)
  covers_both C D C' D' p q = record {
    part = λ v w. ⊎_elim (λ c. inl (p.part v w c)) (λ c. inr (q.part v w c));
    under = λ x y. ⊎_elim
        (λ d. let k = p.under x y d in (k.0, k.1, inl k.2, k.3))
        (λ d. let k = q.under x y d in (k.0, k.1, inr k.2, k.3));
  }

  -- what keeps more, of the candidates, covers them too
  pub covers_more : (P Q C : V → W → Type 0) → Covers le same wle P C → ((v : V) (w : W) → P v w → Q v w) → ((v : V) (w : W) → Q v w → C v w) → Covers le same wle Q C
  covers_more P Q C p f g = record {
    part = g;
    under = λ x y c. let k = p.under x y c in (k.0, k.1, f k.0 k.1 k.2, k.3);
  }

  -- a label for which a candidate may stand may be dropped
  pub covers_drop : (C : V → W → Type 0) (v : V) (w : W) (x : V) (y : W) → C v w → StandsFor le same wle v w x y
      → Covers le same wle C (λ a p. C a p ⊎ ((a ≡ x) × (p ≡ y)))
  covers_drop C v w x y c h = record {
    part = λ a p m. inl m;
    under = λ a p. ⊎_elim
        (λ m. (a, p, m, stands_refl a p))
        (λ e. (v, w, c, subst (λ z. StandsFor le same wle v w z p) (sym e.0) (subst (λ z. StandsFor le same wle v w x z) (sym e.1) h)));
  }

  -- two pools, joined by the rule: what covers the entries of both covers the candidates of both
  pub covers_merge : (C D : V → W → Type 0) (one two merged : List (V × W))
      → Covers le same wle (λ v w. Member one (v, w)) C → Covers le same wle (λ v w. Member two (v, w)) D
      → Covers le same wle (λ v w. Member merged (v, w)) (λ v w. Member (one ++ two) (v, w))
      → Covers le same wle (λ v w. Member merged (v, w)) (λ v w. C v w ⊎ D v w)
  covers_merge C D one two merged p q m =
      covers_trans (λ v w. Member merged (v, w)) (λ v w. Member one (v, w) ⊎ Member two (v, w)) (λ v w. C v w ⊎ D v w)
      (covers_trans (λ v w. Member merged (v, w)) (λ v w. Member (one ++ two) (v, w)) (λ v w. Member one (v, w) ⊎ Member two (v, w)) m
      (covers_same (λ v w. Member (one ++ two) (v, w)) (λ v w. Member one (v, w) ⊎ Member two (v, w))
      (λ v w h. Member-append one two (v, w) h)
      (λ v w. ⊎_elim (λ h. Member-append_left one two (v, w) h) (λ h. Member-append_right one two (v, w) h))))
      (covers_both (λ v w. Member one (v, w)) C (λ v w. Member two (v, w)) D p q)

  -- which at a node, where dominance is by values alone, is a covering too
  pub covers_plainly : (C D : V → W → Type 0) → Covers le same wle C D → IsCovering le wle C D
  covers_plainly C D p = record {
    part = p.part;
    under = λ x y d.
        let k = p.under x y d in
        (k.0, k.1, k.2, k.3.0, λ e. k.3.1 (same_where_equal k.0 x e));
  }

  pub covers_pool : (C : V → W → Type 0) (entries : List (V × W)) → IsPool le same wle C entries → Covers le same wle (λ v w. Member entries (v, w)) C
  covers_pool C entries i = record { part = i.among; under = i.covers }

  -- a pool of a part that covers is the pool of all, and the other way round
  module _ (Part Candidate : V → W → Type 0) (covering : Covers le same wle Part Candidate) (entries : List (V × W)) where
    pub pool_of_all : IsPool le same wle Part entries → IsPool le same wle Candidate entries
    pool_of_all i =
        let whole = covers_trans (λ v w. Member entries (v, w)) Part Candidate (covers_pool Part entries i) covering in
        record { among = whole.part; covers = whole.under; alone = i.alone }

    pool_part : IsPool le same wle Candidate entries → (v : V) (w : W) → Member entries (v, w) → Part v w
    pool_part i v w m =
        let p = covering.under v w (i.among v w m) in
        let k = i.covers p.0 p.1 (covering.part p.0 p.1 p.2) in
        let is_it = i.alone k.0 k.1 v w k.2 m (stands_trans k.0 k.1 p.0 p.1 v w k.3 p.3) in
        let back : StandsFor le same wle v w p.0 p.1 = subst (λ z. StandsFor le same wle z w p.0 p.1) is_it.0 (subst (λ z. StandsFor le same wle k.0 z p.0 p.1) is_it.1 k.3) in
        let is = stands_antisym p.0 p.1 v w p.3 back in
        subst (λ z. Part v z) is.1 (subst (λ z. Part z p.1) is.0 p.2)

    pub pool_of_part : IsPool le same wle Candidate entries → IsPool le same wle Part entries
    pool_of_part i = record {
      among = pool_part i;
      covers = λ x y c. i.covers x y (covering.part x y c);
      alone = i.alone;
    }

  -- a pool of the same candidates has the same entries
  pub pool_unique : (C : V → W → Type 0) (es fs : List (V × W)) → IsPool le same wle C es → IsPool le same wle C fs → (v : V) (w : W) → Member es (v, w) → Member fs (v, w)
  pool_unique C es fs i j = pool_part (λ v w. Member fs (v, w)) C (covers_pool C fs j) es i

  -- the pool of the entries of two pools is the pool of the candidates of both
  pub pool_merge : (C D : V → W → Type 0) (one two merged : List (V × W))
      → IsPool le same wle C one → IsPool le same wle D two → IsPool le same wle (λ v w. Member (one ++ two) (v, w)) merged
      → IsPool le same wle (λ v w. C v w ⊎ D v w) merged
  pool_merge C D one two merged i j m =
      let whole = covers_merge C D one two merged (covers_pool C one i) (covers_pool D two j) (covers_pool (λ v w. Member (one ++ two) (v, w)) merged m) in
      record { among = whole.part; covers = whole.under; alone = m.alone }

  -- merged either way round, the entries are the same
  pub pool_merge_either_way : (C D : V → W → Type 0) (one two merged turned : List (V × W))
      → IsPool le same wle C one → IsPool le same wle D two
      → IsPool le same wle (λ v w. Member (one ++ two) (v, w)) merged → IsPool le same wle (λ v w. Member (two ++ one) (v, w)) turned
      → (v : V) (w : W) → Member merged (v, w) → Member turned (v, w)
  pool_merge_either_way C D one two merged turned i j m t =
      let back = pool_merge D C two one turned j i t in
      pool_unique (λ v w. C v w ⊎ D v w) merged turned (pool_merge C D one two merged i j m)
      (record { among = λ v w k. ⊎_elim inr inl (back.among v w k); covers = λ x y c. back.covers x y (⊎_elim inr inl c); alone = back.alone })

  -- no value stands twice in a pool
  pub pool_values_apart : (total : (a b : W) → wle a b ≡ true ⊎ wle b a ≡ true) (C : V → W → Type 0) (entries : List (V × W)) → IsPool le same wle C entries
      → (v : V) (w y : W) → Member entries (v, w) → Member entries (v, y) → w ≡ y
  pool_values_apart total C entries i v w y m n = ⊎_elim
      (λ h. (i.alone v w v y m n (order.reflexive v, λ _. h)).1)
      (λ h. sym (i.alone v y v w n m (order.reflexive v, λ _. h)).1)
      (total w y)

  -- where no two values, one at most the other, have the same sums, the rule is the one of values alone
  module _ (trivial : (a b : V) → le a b ≡ true → same a b ≡ true → a ≡ b) where
    pub covers_from_plain : (C D : V → W → Type 0) → IsCovering le wle C D → Covers le same wle C D
    covers_from_plain C D p = record {
      part = p.part;
      under = λ x y d.
          let k = p.under x y d in
          (k.0, k.1, k.2, (k.3, λ e. k.4 (trivial k.0 x k.3 e)));
    }

    pub pool_from_local : (C : V → W → Type 0) (entries : List (V × W)) → IsLocal le wle C entries → IsPool le same wle C entries
    pool_from_local C entries i = record {
      among = i.among;
      covers = λ x y d. let k = i.covers x y d in (k.0, k.1, k.2, (k.3, λ e. k.4 (trivial k.0 x k.3 e)));
      alone = λ v w x y m n h. i.alone v w x y m n h.0;
    }

    -- walks decide only between equal values there
    pub local_from_pool : (total : (a b : W) → wle a b ≡ true ⊎ wle b a ≡ true) (C : V → W → Type 0) (entries : List (V × W)) → IsPool le same wle C entries → IsLocal le wle C entries
    local_from_pool total C entries i = record {
      among = i.among;
      covers = λ x y d. let k = i.covers x y d in (k.0, k.1, k.2, k.3.0, λ e. k.3.1 (same_where_equal k.0 x e));
      alone = λ v w x y m n h. ⊎_elim
          (λ q. i.alone v w x y m n (h, λ _. q))
          (λ q. i.alone v w x y m n (
            h,
            λ e.
                let equal : v ≡ x = trivial v x h e in
                let one : y ≡ w = (i.alone x y v w n m (subst (λ z. le z v ≡ true) equal (order.reflexive v), λ _. q)).1 in
                subst (λ z. wle w z ≡ true) (sym one) (walks.reflexive w),
          ))
          (total w y);
    }
