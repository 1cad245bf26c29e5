-- Sums and last legs of a list with one leg more.
use Rattle.std.proofs.Common.{◌≡◌, ◌<◌, ◌+◌, ◌-◌, ℕ, zero, suc, ℤ, ◌+ℤ◌, List, [], ◌∷◌, ◌++◌, Some, length, refl, arith, take, get_or, add-one}
use Rattle.std.specs.Prelude.{slice_get}
use Rattle.std.proofs.lemmas.Int.{ints}
use Rattle.crew_pairing.specs.Legality.{last_of, total}
use Rattle.crew_pairing.specs.declared.leg.TimedLeg.{TimedLeg}

pub total-append : {X : Type 0} (f : X → ℤ) (xs ys : List X) → total f (xs ++ ys) ≡ total f xs +ℤ total f ys
total-append f [] ys = omega (arith, ints)
total-append f (x ∷ xs) ys = omega (arith, ints, total-append f xs ys)

pub total-push : {X : Type 0} (f : X → ℤ) (xs : List X) (x : X) → total f (xs ++ x ∷ []) ≡ total f xs +ℤ f x
total-push f [] x = omega (arith, ints)
total-push f (y ∷ xs) x = omega (arith, ints, total-push f xs x)

pub last_of-push : (first : TimedLeg) (others : List TimedLeg) (l : TimedLeg) → last_of first (others ++ l ∷ []) ≡ l
last_of-push first [] l = refl
last_of-push first (x ∷ others) l = last_of-push x others l

-- the last of a list is its last leg
pub last_of-last : (first : TimedLeg) (others : List TimedLeg) (l : TimedLeg) → slice_get others (length others - 1) ≡ Some l → l ≡ last_of first others
last_of-last first [] l e = cc
last_of-last first (x ∷ []) l e = cc
last_of-last first (x ∷ y ∷ others) l e =
    let n : length (x ∷ y ∷ others) - 1 ≡ suc (length others) = omega arith in
    let m : length (y ∷ others) - 1 ≡ length others = omega arith in
    last_of-last x (y ∷ others) l (rw m (rw n at e))

-- a sum over one element more
pub total-take : {X : Type 0} (f : X → ℤ) (xs : List X) (i : ℕ) (d : X) → i < length xs → total f (take (i + 1) xs) ≡ total f (take i xs) +ℤ f (get_or xs i d)
total-take f [] i d h = absurd (omega arith)
total-take f (x ∷ xs) zero d h = omega (arith, ints)
total-take f (x ∷ xs) (suc i) d h =
    let more = rw (add-one i) at (total-take f xs i d (omega arith)) in
    rw (add-one (suc i)) (omega (arith, ints, more))
