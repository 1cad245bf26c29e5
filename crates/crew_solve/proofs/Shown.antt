-- The entries of a front, in order of vector.
use Rattle.std.proofs.Common.{◌≡◌, ◌∙◌, ◌≤◌, ◌+◌, ℕ, zero, suc, ℤ, Bool, true, false, cond, List, [], ◌∷◌, Some, refl, sym, ap, inl, inr, length, map, take, arith, pos, ◌*ℤ◌}
use Rattle.std.specs.Prelude.{slice_get}
use Rattle.std.specs.Ordering.{eq_by_cmp, int_cmp, ordering_then}
use Rattle.crew_anchor.specs.Anchors.{shown}
use Rattle.crew_anchor.specs.Machinery.Shifts.{cmp_more}
use Rattle.crew_flights.specs.Codes.{code_cmp}
use Rattle.crew_pairing.specs.declared.duty.Duty.{Duty}
use Rattle.crew_pairing.specs.declared.vector.PairingVector.{PairingVector}
use Rattle.crew_resource.specs.Members.{Each, Member}
use Rattle.crew_solve.specs.Solutions.{front_among}
use Rattle.crew_net.specs.Machinery.Numbered.{place_of}
use Rattle.crew_sweep.specs.Sweeps.{BaseSweep, front_at}
use Rattle.crew_vector.proofs.Orders.{code-itself}
use Rattle.crew_vector.specs.Fronts.{vector_cmp}

-- the first that passes a test
place-split : (b : Bool) (n i : ℕ) → cond b 0 (suc n) ≡ suc i → (b ≡ false) × (n ≡ i)
place-split true n i e = absurd (omega (arith, e))
place-split false n i e = (refl, omega (arith, e))

pub place-none : {E : Type 0} (p : E → Bool) (xs : List E) (i : ℕ) (x : E) → slice_get xs i ≡ Some x → place_of p (take i xs) ≡ i → p x ≡ false → place_of p (take (i + 1) xs) ≡ i + 1
place-none p [] i x e h f = absurd (let q : ⊥ = (cc) in q)
place-none p (y ∷ ys) zero x e h f = let q : y ≡ x = (cc) in ap (λ b. cond b 0 1) (ap p q ∙ f)
place-none p (y ∷ ys) (suc i) x e h f =
    let on : suc i + 1 ≡ suc (i + 1) = omega arith in
    let k = place-split (p y) (place_of p (take i ys)) i h in
    rw on (ap (λ b. cond b 0 (suc (place_of p (take (i + 1) ys)))) k.0 ∙ ap suc (place-none p ys i x e k.1 f))

pub place-here : {E : Type 0} (p : E → Bool) (xs : List E) (i : ℕ) (x : E) → slice_get xs i ≡ Some x → place_of p (take i xs) ≡ i → p x ≡ true → place_of p xs ≡ i
place-here p [] i x e h f = absurd (let q : ⊥ = (cc) in q)
place-here p (y ∷ ys) zero x e h f = let q : y ≡ x = (cc) in ap (λ b. cond b 0 (suc (place_of p ys))) (ap p q ∙ f)
place-here p (y ∷ ys) (suc i) x e h f =
    let k = place-split (p y) (place_of p (take i ys)) i h in
    ap (λ b. cond b 0 (suc (place_of p ys))) k.0 ∙ ap suc (place-here p ys i x e k.1 f)

-- the sweep of a base, among those that stand for others
module _ {A : Type 0} (f : A → BaseSweep) where
  pub among-at : (xs : List A) (i : ℕ) (a : A) (base : List ℕ) → slice_get xs i ≡ Some a → Each (λ x. eq_by_cmp code_cmp (f x).base base ≡ false) (take i xs)
      → eq_by_cmp code_cmp (f a).base base ≡ true → (d : Duty) → front_among (map f xs) base d ≡ front_at (f a) d
  among-at [] i a base e h t d = absurd (let q : ⊥ = (cc) in q)
  among-at (x ∷ xs) zero a base e h t d =
      let q : x ≡ a = (cc) in
      ap (λ k. cond k (front_at (f x) d) (front_among (map f xs) base d)) (ap (λ y. eq_by_cmp code_cmp (f y).base base) q ∙ t) ∙ ap (λ y. front_at (f y) d) q
  among-at (x ∷ xs) (suc i) a base e h t d = ap (λ k. cond k (front_at (f x) d) (front_among (map f xs) base d)) h.0 ∙ among-at xs i a base e h.1 t d

  pub none-at : (xs : List A) (i : ℕ) (base : List ℕ) → length xs ≤ i → Each (λ x. eq_by_cmp code_cmp (f x).base base ≡ false) (take i xs)
      → (b : BaseSweep) → Member (map f xs) b → b.base ≡ base → ⊥
  none-at [] i base h e b m own = absurd m
  none-at (x ∷ xs) zero base h e b m own = absurd (omega (arith, h))
  none-at (x ∷ xs) (suc i) base h e b (inl q) own = let t = code-itself (f x).base base (ap (λ (y : BaseSweep). y.base) q ∙ own) in let both = sym t ∙ e.0 in let z : ⊥ = (cc) in z
  none-at (x ∷ xs) (suc i) base h e b (inr m) own = none-at xs i base (omega (arith, h)) e.1 b m own

-- vectors shown as of a minute compare as they did
pub shown-listed : (rate : ℕ) (minute : ℤ) (u v : PairingVector) → vector_cmp (shown rate minute u) (shown rate minute v) ≡ vector_cmp u v
shown-listed rate minute u v =
    λ i. ordering_then (int_cmp u.duty_pay v.duty_pay) (ordering_then (cmp_more u.trip_rig v.trip_rig (pos rate *ℤ minute) i) (ordering_then (int_cmp u.guarantee v.guarantee) (ordering_then (int_cmp u.fdp v.fdp) (ordering_then (int_cmp u.fly v.fly) (ordering_then (int_cmp u.duties v.duties) (cmp_more u.away v.away minute i))))))
