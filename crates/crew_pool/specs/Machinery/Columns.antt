-- Marks by column.
use Rattle.std.specs.Prelude.{◌≡◌, ◌<◌, ◌≤◌, Bool, false, true, ℕ, List, [], ◌∷◌, ℤ, length, map, min, slice_index_or}
use Rattle.std.specs.Simd.Lanes.{zip2}
use Rattle.crew_pool.specs.Marks.{are_at_most}

-- a number before each list
abbrev pub before_each : List ℤ → List (List ℤ) → List (List ℤ)
before_each = zip2 (λ x xs. x ∷ xs)

-- the rows of four columns
abbrev pub rows_of : List ℤ → List ℤ → List ℤ → List ℤ → List (List ℤ)
rows_of a b c d = before_each a (before_each b (before_each c (map (λ x. x ∷ []) d)))

-- rows of four marks, and how many there is room for
pub record Rows : Type 0 where
  pub rows : List (List ℤ)
  pub room : ℕ

-- four columns are as long
pub record AreLevel (a b c d : List ℤ) : Type 0 where
  pub second : length b ≡ length a
  pub third : length c ≡ length a
  pub fourth : length d ≡ length a

-- the least of four
abbrev pub least : ℕ → ℕ → ℕ → ℕ → ℕ
least a b c d = min (min a b) (min c d)

-- whether the marks at a place are at most these
abbrev pub is_at_most : List (List ℤ) → List ℤ → ℕ → Bool
is_at_most rows marks place = are_at_most (slice_index_or rows place []) marks

-- from one place on, below another, none has marks at most these
abbrev pub NoneBetween : List (List ℤ) → List ℤ → ℕ → ℕ → Type 0
NoneBetween rows marks first end = (k : ℕ) → first ≤ k → k < end
    → is_at_most rows marks k ≡ false

-- marks are at most those of each row
abbrev pub IsBelowAll : List ℤ → List (List ℤ) → Type 0
IsBelowAll marks rows = (k : ℕ) → k < length rows
    → are_at_most marks (slice_index_or rows k []) ≡ true

-- the first place from one on whose marks are at most these
pub record IsNext (rows : List (List ℤ)) (marks : List ℤ) (first place : ℕ) : Type 0 where
  pub there : place < length rows
  pub onward : first ≤ place
  pub passes : is_at_most rows marks place ≡ true
  pub none : NoneBetween rows marks first place
