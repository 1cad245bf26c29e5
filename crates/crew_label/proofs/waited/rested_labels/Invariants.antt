use Rattle.std.proofs.Common.{◌≡◌, map, take}
use Rattle.crew_label.specs.Boarding.{waited_label}
use Rattle.crew_label.proofs.waited.rested_labels.Given as goal

abbrev pub invariant-loop-label : goal.invariant-loop-label
invariant-loop-label g l = l.rested.items ≡ map (waited_label (g.R.Lapses.rested_of l.resource)) (take l.label-index l.labels)
