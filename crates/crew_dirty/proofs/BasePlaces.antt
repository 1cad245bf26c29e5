-- The places of bases.
use Rattle.std.proofs.Common.{◌≡◌, ◌∙◌, ◌<◌, ◌+◌, Bool, true, false, cond, not, List, [], ◌∷◌, Some, None, ap, arith, get_or, inl, inr, length, refl, ℕ}
use Rattle.std.specs.Prelude.{nat_lt, slice_get}
use Rattle.std.specs.List.{position, position_or_len}
use Rattle.std.specs.Ordering.{eq_by_cmp}
use Rattle.std.proofs.lemmas.Bool.Decides.{nat_tests}
use Rattle.std.proofs.lemmas.List.Quantifiers.{position-Some}
use Rattle.std.proofs.lemmas.Option.{slice_get-get_or}
use Rattle.crew_flights.specs.Codes.{code_cmp}
use Rattle.crew_resource.specs.Members.{Member}
use Rattle.crew_net.proofs.Geometry.{code-equal, equal-code}

-- what is there is found
found : {X : Type 0} (p : X → Bool) (xs : List X) (x : X) → Member xs x → p x ≡ true → position_or_len p xs < length xs
found p [] x m t = absurd m
found {X} p (y ∷ ys) x (inl e) t = by (p y) (ap p e ∙ t)
  where
    by : (b : Bool) → b ≡ true → cond (not b) (1 + position_or_len p ys) 0 < length (y ∷ ys)
    by true h = omega arith
    by false h = absurd (let z : ⊥ = (cc) in z)
found {X} p (y ∷ ys) x (inr m) t = by (p y) (found p ys x m t)
  where
    by : (b : Bool) → position_or_len p ys < length ys → cond (not b) (1 + position_or_len p ys) 0 < length (y ∷ ys)
    by true h = omega arith
    by false h = omega (arith, h)

not-lost : {X : Type 0} (p : X → Bool) (xs : List X) (x : X) → Member xs x → p x ≡ true → position p xs ≡ None → ⊥
not-lost p xs x m t none = by (nat_lt (position_or_len p xs) (length xs)) (let h = found p xs x m t in grind (arith, nat_tests, h)) none
  where
    by : (b : Bool) → b ≡ true → cond b (Some (position_or_len p xs)) None ≡ None → ⊥
    by true h e = let z : ⊥ = (cc) in z
    by false h e = let z : ⊥ = (cc) in z

abbrev is_base : List ℕ → List ℕ → Bool
is_base base b = eq_by_cmp code_cmp b base

-- a base that is there has a place
pub base-there : (bases : List (List ℕ)) (base : List ℕ) → Member bases base → position (is_base base) bases ≡ None → ⊥
base-there bases base m none = not-lost (is_base base) bases base m (equal-code base base refl) none

-- it stands at its place
pub base-at : (bases : List (List ℕ)) (base : List ℕ) (place : ℕ) → position (is_base base) bases ≡ Some place → slice_get bases place ≡ Some base
base-at bases base place at =
    let there = position-Some (is_base base) bases place base at in
    slice_get-get_or bases place base there.0 ∙ ap (λ (b : List ℕ). Some b) (code-equal (get_or bases place base) base there.1)
