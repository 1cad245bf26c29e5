-- What a room has.
use Rattle.std.specs.Prelude.{◌≡◌, List, [], ◌∷◌}
use Rattle.crew_resource.specs.Members.{Each}
use Rattle.crew_label.specs.declared.label.Label.{Label}

-- no value stands twice
abbrev pub HaveOwnValues : {V : Type 0} → List (Label V) → Type 0
HaveOwnValues [] = Unit {0}
HaveOwnValues (l ∷ ls) = Each (λ m. l.value ≡ m.value → ⊥) ls × HaveOwnValues ls
