-- A list that is filled in place: so many stand, and more are put after them.
use Rattle.std.specs.Prelude.{◌≡◌, ◌≤◌, ◌+◌, ◌++◌, ℕ, List, length, min, take}

-- these stand behind the first `at`, where there is room for them
abbrev pub Fills : {X : Type 0} → ℕ → List X → List X → List X → Type 0
Fills at xs before after =
    (length after ≡ length before)
    × (at + length xs ≤ length before → take (at + length xs) after ≡ take at before ++ xs)

-- the same, and `n` has counted them with those before, to one more than may be listed
abbrev pub Goes : {X : Type 0} → ℕ → List X → List X → ℕ → List X → Type 0
Goes at xs before n after = (n ≡ min (at + length xs) 200_001) × Fills at xs before after
