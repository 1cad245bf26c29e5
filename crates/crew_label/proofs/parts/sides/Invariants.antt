use Rattle.std.proofs.Common.{◌≡◌, not, take}
use Rattle.std.specs.List.{filter}
use Rattle.crew_label.specs.Machinery.Indexes.{is_low}
use Rattle.crew_label.proofs.parts.sides.Given as goal

abbrev pub invariant-loop-place : goal.invariant-loop-place
invariant-loop-place g l =
    (l.low.items ≡ filter (λ k. is_low l.list l.cut k) (take l.place-index l.places))
    × (l.high.items ≡ filter (λ k. not (is_low l.list l.cut k)) (take l.place-index l.places))
