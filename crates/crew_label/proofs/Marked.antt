-- Marks, place by place.
use Rattle.std.proofs.Common.{◌≡◌, true, Bool, ◌≤ℤ◌, ℤ, FitsSigned, to_z, of_z, w32, refl, subst, arith}
use Rattle.std.specs.Prelude.{◌&&◌, int_le, List, [], ◌∷◌, ℕ, zero, suc}
use Rattle.crew_forgetful.specs.Marks.{AreAtMost}
use Rattle.crew_label.specs.Machinery.Marks.{are_at_most, are_first, mark_at}
use Rattle.std.proofs.lemmas.Int.{to_z-of_z}

pub and_same : {a b c d : Bool} → a ≡ b → c ≡ d → (a && c) ≡ (b && d)
and_same {a} {b} {c} {d} p q = rw (p, q)

pub and_true : {a b : Bool} → a ≡ true → b ≡ true → (a && b) ≡ true
and_true p q = rw (p, q)

pub le_same : (x y : ℤ) → FitsSigned w32 x → FitsSigned w32 y
    → int_le (to_z w32 (of_z w32 x)) (to_z w32 (of_z w32 y)) ≡ int_le x y
le_same x y f g = rw (to_z-of_z w32 x f, to_z-of_z w32 y g)

-- what is at most a mark that was read is at most the mark
pub le_read : (x y : ℤ) → FitsSigned w32 x → FitsSigned w32 y → x ≤ℤ to_z w32 (of_z w32 y)
    → int_le (to_z w32 (of_z w32 x)) y ≡ true
le_read x y f g h =
    let k : x ≤ℤ y = subst (λ z. x ≤ℤ z) (to_z-of_z w32 y g) h in
    let e : int_le x y ≡ true = grind (arith) in
    rw (to_z-of_z w32 x f) e

pub and_first : (a b : Bool) → (a && b) ≡ true → a ≡ true
and_first a b e = grind (arith)

pub and_second : (a b : Bool) → (a && b) ≡ true → b ≡ true
and_second a b e = grind (arith)

le_between : (x y z : ℤ) → int_le x y ≡ true → int_le y z ≡ true → int_le x z ≡ true
le_between x y z p q = grind (arith)

first_between : (n : ℕ) (a b c : List ℤ) → are_first n a b ≡ true → are_first n b c ≡ true
    → are_first n a c ≡ true
first_between zero a b c p q = refl
first_between (suc n) a b c p q =
    let ab = int_le (mark_at n a) (mark_at n b) in
    let bc = int_le (mark_at n b) (mark_at n c) in
    and_true (first_between n a b c (and_first (are_first n a b) ab p) (and_first (are_first n b c) bc q))
    (le_between (mark_at n a) (mark_at n b) (mark_at n c) (and_second (are_first n a b) ab p) (and_second (are_first n b c) bc q))

-- marks are ordered
pub at_most_between : (a b c : List ℤ) → are_at_most a b ≡ true → are_at_most b c ≡ true
    → are_at_most a c ≡ true
unfolding are_at_most
at_most_between a b c p q = first_between 16 a b c p q

at_place : (k : ℕ) (xs ys : List ℤ) → AreAtMost xs ys → int_le (mark_at k xs) (mark_at k ys) ≡ true
at_place k [] [] h = refl
at_place k [] (y ∷ ys) h = absurd h
at_place k (x ∷ xs) [] h = absurd h
at_place zero (x ∷ xs) (y ∷ ys) h = let g : x ≤ℤ y = h.0 in grind (arith)
at_place (suc k) (x ∷ xs) (y ∷ ys) h = at_place k xs ys h.1

first_places : (n : ℕ) (xs ys : List ℤ) → AreAtMost xs ys → are_first n xs ys ≡ true
first_places zero xs ys h = refl
first_places (suc n) xs ys h = and_true (first_places n xs ys h) (at_place n xs ys h)

-- what a resource's law tells of marks is what the test asks
pub asked_of : (xs ys : List ℤ) → AreAtMost xs ys → are_at_most xs ys ≡ true
unfolding are_at_most
asked_of xs ys h = first_places 16 xs ys h
