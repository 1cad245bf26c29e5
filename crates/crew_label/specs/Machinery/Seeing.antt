-- Labels where they stand, with their marks.
use Rattle.std.specs.Prelude.{◌≡◌, List, map, ℤ}
use Rattle.crew_resource.specs.Members.{Member}
use Rattle.crew_label.specs.declared.label.Label.{Label}
use Rattle.crew_label.specs.declared.seen.Seen.{Seen}

-- the labels that are seen
abbrev pub labels_of : {V : Type 0} → List (Seen V) → List (Label V)
labels_of seen = map (λ s. s.label.now) seen

-- each label's marks are those of its value
abbrev pub AreTold : {V : Type 0} → (V → List ℤ) → List (Seen V) → Type 0
AreTold {V} marks seen = (s : Seen V) → Member seen s → s.marks.now ≡ marks s.label.now.value

-- the marks of the labels of both lists are told from one moment
abbrev pub AreMarked : {V : Type 0} → (V → ℤ → List ℤ) → List (Seen V) → List (Seen V) → Type 0
AreMarked marks one two =
    (moment : ℤ) × AreTold (λ v. marks v moment) one × AreTold (λ v. marks v moment) two
