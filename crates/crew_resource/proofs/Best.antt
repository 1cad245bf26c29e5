-- The best entry over the fronts is the best of all clean walks, and costs no more than any.
use Rattle.std.proofs.Common.{◌≡◌, Bool, true, List, ℤ, sym, subst, arith, inl, inr, ⊎_elim}
use Rattle.std.specs.Prelude.{◌≤ℤ◌, ◌<ℤ◌, ◌⊎◌}
use Rattle.std.proofs.lemmas.Int.{ints}
use Rattle.crew_resource.specs.Members.{Member}
use Rattle.crew_resource.specs.Labels.{Undominated, IsFront}

-- by cost, and then by walk
abbrev pub NoWorse : {W : Type 0} → (W → W → Bool) → ℤ → W → ℤ → W → Type 0
NoWorse wle c w d y = (c <ℤ d) ⊎ ((c ≡ d) × (wle w y ≡ true))

module _ (N V W : Type 0) (le : V → V → Bool) (wle : W → W → Bool) (At Clean : N → V → W → Type 0) (IsHome : N → Type 0) (cost : V → ℤ)
    (respects : (a b : V) → le a b ≡ true → cost a ≤ℤ cost b)
    (clean_at : (d : N) (v : V) (w : W) → Clean d v w → At d v w)
    (clean_undominated : (d : N) (v : V) (w : W) → Clean d v w → Undominated le (At d) v)
    (fronts : N → List (V × W))
    (right : (d : N) → IsFront le wle (At d) (Clean d) (fronts d))
    (covers : (d : N) (x : V) (y : W) → At d x y → (v : V) × (w : W) × Member (fronts d) (v, w) × (le v x ≡ true))
    (best : N) (vector : V) (walk : W) (in_front : Member (fronts best) (vector, walk)) (home : IsHome best)
    (least : (d : N) (v : V) (w : W) → IsHome d → Member (fronts d) (v, w) → NoWorse wle (cost vector) walk (cost v) w)
    (trans : (a b c : W) → wle a b ≡ true → wle b c ≡ true → wle a c ≡ true) where
  pub best_of_clean : (d : N) (v : V) (w : W) → IsHome d → Clean d v w → NoWorse wle (cost vector) walk (cost v) w
  best_of_clean d v w h c =
      let e = (right d).every v (clean_undominated d v w c) in
      ⊎_elim inl (λ q. inr (q.0, trans walk e.0 w q.1 ((right d).least v e.0 w e.1 c))) (least d v e.0 h e.1)

  pub best_costs_least : (d : N) (v : V) (w : W) → IsHome d → At d v w → cost vector ≤ℤ cost v
  best_costs_least d v w h a =
      let k = covers d v w a in
      let less = respects k.0 v k.3 in
      ⊎_elim (λ q. omega (arith, ints, q, less)) (λ q. subst (λ z. z ≤ℤ cost v) (sym q.0) less) (least d k.0 k.1 h k.2)
