-- The lines of a service's input, and what is told of each.
use Rattle.std.specs.Prelude.{ℕ, ◌==◌, nat_le, List, [], ◌∷◌, length, map, take, if◌then◌else◌}

-- lines, the first of which begins with one byte more
abbrev pub with_byte : ℕ → List (List ℕ) → List (List ℕ)
with_byte x [] = (x ∷ []) ∷ []
with_byte x (line ∷ lines) = (x ∷ line) ∷ lines

-- the lines of bytes: each ends with LF, and the last one may go without
abbrev pub lines : List ℕ → List (List ℕ)
lines [] = []
lines (x ∷ xs) = if x == 10 then [] ∷ lines xs else with_byte x (lines xs)

-- what is told of a line: all of it, or the beginning of one that is too long
pub data Told : Type 0 where
  All : (line : List ℕ) → Told
  Beginning : (bytes : List ℕ) → Told

abbrev pub told_of : List ℕ → Told
told_of line = if nat_le (length line) 65_536 then All line else Beginning (take 33 line)

-- what is told of the lines of bytes
abbrev pub told_in : List ℕ → List Told
told_in bytes = map told_of (lines bytes)
