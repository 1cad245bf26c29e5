use Rattle.std.proofs.Common.{◌≡◌, map, take}
use Rattle.crew_label.specs.Boarding.{waited_label}
use Rattle.crew_label.proofs.waited.waited_labels.Given as goal

abbrev pub invariant-loop-label : goal.invariant-loop-label
invariant-loop-label g l =
    l.waited.items ≡ map (waited_label (λ v. g.R.Staged.waited l.resource v l.arrival l.departure)) (take l.label-index l.fn.pool)
