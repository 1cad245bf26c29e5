-- What stands before a byte.
use Rattle.std.specs.Prelude.{ℕ, ◌==◌, List, [], ◌∷◌, if◌then◌else◌}

-- the bytes before the first one that is this, or all of them
abbrev pub before : ℕ → List ℕ → List ℕ
before byte [] = []
before byte (x ∷ xs) = if x == byte then [] else x ∷ before byte xs
