-- Marks of values, compared place by place.
use Rattle.std.specs.Prelude.{List, [], ◌∷◌, ℤ, ◌≤ℤ◌}

-- each number is at most the other list's at its place, and there are as many
abbrev pub AreAtMost : List ℤ → List ℤ → Type 0
AreAtMost [] [] = Unit {0}
AreAtMost [] (y ∷ ys) = ⊥
AreAtMost (x ∷ xs) [] = ⊥
AreAtMost (x ∷ xs) (y ∷ ys) = (x ≤ℤ y) × AreAtMost xs ys
