-- The lines of bytes, one after another.
use Rattle.std.proofs.Common.{◌≡◌, ◌==◌, ℕ, Bool, true, false, List, [], ◌∷◌, map, refl, ap, if◌then◌else◌}
use Rattle.std.specs.Io.BufRead.{drop_through}
use Rattle.crew_lines.specs.Bytes.{before}
use Rattle.crew_lines.specs.Lines.{lines, told_in, told_of, with_byte}

-- the first line of bytes, and the lines of those behind it
lines-first : (x : ℕ) (xs : List ℕ) → lines (x ∷ xs) ≡ before 10 (x ∷ xs) ∷ lines (drop_through 10 (x ∷ xs))
lines-first x [] = by (x == 10)
  where
    by : (t : Bool) → (if t then [] ∷ [] else (x ∷ []) ∷ []) ≡ (if t then [] else x ∷ []) ∷ lines (if t then [] else [])
    by true = refl
    by false = refl
lines-first x (y ∷ xs) = by (x == 10) (lines-first y xs)
  where
    by : (t : Bool) → lines (y ∷ xs) ≡ before 10 (y ∷ xs) ∷ lines (drop_through 10 (y ∷ xs))
        → (if t then [] ∷ lines (y ∷ xs) else with_byte x (lines (y ∷ xs))) ≡ (if t then [] else x ∷ before 10 (y ∷ xs)) ∷ lines (if t then y ∷ xs else drop_through 10 (y ∷ xs))
    by true more = refl
    by false more = ap (with_byte x) more

-- .. and what is told of them
pub told-first : (x : ℕ) (xs : List ℕ) → told_in (x ∷ xs) ≡ told_of (before 10 (x ∷ xs)) ∷ told_in (drop_through 10 (x ∷ xs))
told-first x xs = ap (map told_of) (lines-first x xs)
