-- More flight segments never make the limit of Table B longer.
use Rattle.std.proofs.Common.{◌≡◌, ◌≤◌, ◌-◌, ℕ, zero, suc, List, [], ◌∷◌, Bool, true, false, refl, arith, ◌&&◌, get_or, min, nat_le, if◌then◌else◌}
use Rattle.std.proofs.lemmas.Bool.Decides.{nat_tests}
use Rattle.crew_rules.specs.Tables.{Row, in_force, limits_from, rows_b, table_b}

abbrev are_at_most : ℕ → List ℕ → Bool
are_at_most x [] = true
are_at_most x (y ∷ ys) = nat_le y x && are_at_most x ys

abbrev falls : List ℕ → Bool
falls [] = true
falls (x ∷ xs) = are_at_most x xs && falls xs

both-first : (a b : Bool) → (a && b) ≡ true → a ≡ true
both-first true b e = refl
both-first false b e = cc

both-second : (a b : Bool) → (a && b) ≡ true → b ≡ true
both-second true b e = e
both-second false b e = cc

later-at-most : (x : ℕ) (xs : List ℕ) (j : ℕ) → are_at_most x xs ≡ true → get_or xs j 0 ≤ x
later-at-most x [] j e = omega arith
later-at-most x (y ∷ xs) zero e = let h : nat_le y x ≡ true = both-first _ _ e in grind (arith, nat_tests)
later-at-most x (y ∷ xs) (suc j) e = later-at-most x xs j (both-second _ _ e)

falls-along : (xs : List ℕ) (i j : ℕ) → falls xs ≡ true → i ≤ j → get_or xs j 0 ≤ get_or xs i 0
falls-along [] i j e h = omega arith
falls-along (x ∷ xs) zero zero e h = omega arith
falls-along (x ∷ xs) zero (suc j) e h = later-at-most x xs j (both-first _ _ e)
falls-along (x ∷ xs) (suc i) zero e h = absurd (omega arith)
falls-along (x ∷ xs) (suc i) (suc j) e h = falls-along xs i j (both-second _ _ e) (omega arith)

abbrev all_fall : List Row → Bool
all_fall [] = true
all_fall (row ∷ rows) = falls row.1 && all_fall rows

in_force-falls-by : (b : Bool) (now next : List ℕ) → falls now ≡ true → falls next ≡ true → falls (if b then next else now) ≡ true
in_force-falls-by true now next h k = k
in_force-falls-by false now next h k = h

in_force-falls : (before : List ℕ) (rows : List Row) (clock : ℕ) → falls before ≡ true → all_fall rows ≡ true → falls (in_force before rows clock) ≡ true
in_force-falls before [] clock h k = h
in_force-falls before (row ∷ rows) clock h k =
    in_force-falls-by (nat_le row.0 clock) before (in_force row.1 rows clock) h (in_force-falls row.1 rows clock (both-first _ _ k) (both-second _ _ k))

pub table_b-falls : (clock a b : ℕ) → a ≤ b → table_b clock b ≤ table_b clock a
table_b-falls clock a b h = falls-along (limits_from clock) (min a 7 - 1) (min b 7 - 1) (in_force-falls [] rows_b clock refl refl) (omega arith)
