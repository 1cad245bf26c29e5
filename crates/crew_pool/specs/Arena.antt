-- Walks by place.
use Rattle.std.specs.Prelude.{ℕ, List, [], get_or}

-- the walk at a place
abbrev pub walk_at : List (List ℕ) → ℕ → List ℕ
walk_at walks place = get_or walks place []
