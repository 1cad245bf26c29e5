use Rattle.std.proofs.Common.{◌≡◌, List, ℤ, map, take}
use Rattle.crew_label.specs.Machinery.Seeing.{AreTold, labels_of}
use Rattle.crew_label.proofs.seen.see.Given as goal

abbrev pub invariant-loop-place : goal.invariant-loop-place
invariant-loop-place g l =
    (labels_of l.seen.items ≡ take l.place l.labels)
    × ((f : g.row.R-Value.Denot → List ℤ) → l.marks ≡ map (λ x. f x.value) l.labels → AreTold f l.seen.items)
