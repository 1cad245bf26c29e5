-- Candidates that lie above others, and the entries that both leave.
use Rattle.std.proofs.Common.{◌≡◌, ◌∙◌, true, List, sym, subst}
use Rattle.crew_pairing.specs.Keys.{walk_at_most}
use Rattle.crew_pairing.specs.Legs.{Leg}
use Rattle.crew_pairing.specs.declared.vector.PairingVector.{PairingVector}
use Rattle.crew_resource.specs.Labels.{IsLocal}
use Rattle.crew_resource.specs.Members.{Member}
use Rattle.crew_vector.specs.Dominance.{is_at_most}
use Rattle.crew_vector.proofs.Orders.{walk-order}
use Rattle.crew_vector.proofs.Steps.{vector-order}

abbrev Shown : Type 0
Shown = List (PairingVector × List (List Leg))

-- an entry at most another, at equal vectors with a walk at most its walk
abbrev pub Under : (PairingVector → List (List Leg) → Type 0) → PairingVector → List (List Leg) → Type 0
Under P x y = (v : PairingVector) × (w : List (List Leg)) × P v w × (is_at_most v x ≡ true) × (v ≡ x → walk_at_most w y ≡ true)

pub itself : (P : PairingVector → List (List Leg) → Type 0) (x : PairingVector) (y : List (List Leg)) → P x y → Under P x y
itself P x y m = (x, y, m, vector-order.reflexive x, λ _. walk-order.reflexive y)

pub through : (P : PairingVector → List (List Leg) → Type 0) (x u : PairingVector) (y z : List (List Leg)) → is_at_most u x ≡ true → (u ≡ x → walk_at_most z y ≡ true) → Under P u z → Under P x y
through P x u y z less tie k = (
  k.0,
  k.1,
  k.2,
  vector-order.transitive k.0 u x k.3 less,
  λ e.
      let between : u ≡ x = vector-order.antisymmetric u x less (subst (λ (a : PairingVector). is_at_most a u ≡ true) e k.3) in
      walk-order.transitive k.1 z y (k.4 (e ∙ sym between)) (tie between),
)

-- candidates of which each lies above one of others, and the other way round, leave the same entries
module _ (P Q : PairingVector → List (List Leg) → Type 0) (to : (x : PairingVector) (y : List (List Leg)) → P x y → Under Q x y) (back : (x : PairingVector) (y : List (List Leg)) → Q x y → Under P x y) (entries : Shown)
    (local : IsLocal is_at_most walk_at_most P entries) where
  abbrev Entry : PairingVector → List (List Leg) → Type 0
  Entry v w = Member entries (v, w)

  under-entry : (x : PairingVector) (y : List (List Leg)) → Q x y → Under Entry x y
  under-entry x y c =
      let b = back x y c in
      through Entry x b.0 y b.1 b.3 b.4 (local.covers b.0 b.1 b.2)

  among : (v : PairingVector) (w : List (List Leg)) → Member entries (v, w) → Q v w
  among v w m =
      let p = to v w (local.among v w m) in
      let k = under-entry p.0 p.1 p.2 in
      let same = local.alone k.0 k.1 v w k.2 m (vector-order.transitive k.0 p.0 v k.3 p.3) in
      let value : p.0 ≡ v = vector-order.antisymmetric p.0 v p.3 (subst (λ (z : PairingVector). is_at_most z p.0 ≡ true) same.0 k.3) in
      let walk : p.1 ≡ w = walk-order.antisymmetric p.1 w (p.4 value) (subst (λ (z : List (List Leg)). walk_at_most z p.1 ≡ true) same.1 (k.4 (same.0 ∙ sym value))) in
      subst (λ (z : List (List Leg)). Q v z) walk (subst (λ (z : PairingVector). Q z p.1) value p.2)

  pub local-under : IsLocal is_at_most walk_at_most Q entries
  local-under = record { among = among; covers = under-entry; alone = local.alone }
