-- Marks, place by place.
use Rattle.std.proofs.Common.{◌≡◌, ◌≤ℤ◌, ℕ, zero, suc, List, true, Bool, ℤ, FitsSigned, to_z, of_z, w32, refl, arith}
use Rattle.std.specs.Prelude.{◌&&◌, int_le}
use Rattle.crew_pool.specs.Marks.{are_at_most, are_first, mark_at}
use Rattle.std.proofs.lemmas.Int.{to_z-of_z}

pub and_same : {a b c d : Bool} → a ≡ b → c ≡ d → (a && c) ≡ (b && d)
and_same {a} {b} {c} {d} p q = rw (p, q)

pub le_same : (x y : ℤ) → FitsSigned w32 x → FitsSigned w32 y
    → int_le (to_z w32 (of_z w32 x)) (to_z w32 (of_z w32 y)) ≡ int_le x y
le_same x y f g = rw (to_z-of_z w32 x f, to_z-of_z w32 y g)

pub and_true : {a b : Bool} → a ≡ true → b ≡ true → (a && b) ≡ true
and_true p q = rw (p, q)

and_first : (a b : Bool) → (a && b) ≡ true → a ≡ true
and_first a b e = grind (arith)

and_second : (a b : Bool) → (a && b) ≡ true → b ≡ true
and_second a b e = grind (arith)

le_between : (x y z : ℤ) → int_le x y ≡ true → int_le y z ≡ true → int_le x z ≡ true
le_between x y z p q = grind (arith)

pub le_yes : (x y : ℤ) → x ≤ℤ y → int_le x y ≡ true
le_yes x y h = grind (arith)

first_between : (n : ℕ) (a b c : List ℤ) → are_first n a b ≡ true → are_first n b c ≡ true → are_first n a c ≡ true
first_between zero a b c p q = refl
first_between (suc n) a b c p q =
    let ab = int_le (mark_at n a) (mark_at n b) in
    let bc = int_le (mark_at n b) (mark_at n c) in
    and_true (first_between n a b c (and_first (are_first n a b) ab p) (and_first (are_first n b c) bc q))
    (le_between (mark_at n a) (mark_at n b) (mark_at n c) (and_second (are_first n a b) ab p) (and_second (are_first n b c) bc q))

-- marks are ordered
pub at_most_between : (a b c : List ℤ) → are_at_most a b ≡ true → are_at_most b c ≡ true → are_at_most a c ≡ true
unfolding are_at_most
at_most_between a b c p q = first_between 4 a b c p q
