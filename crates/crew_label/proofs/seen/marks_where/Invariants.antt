use Rattle.std.proofs.Common.{◌≡◌, map, take}
use Rattle.crew_label.proofs.seen.marks_where.Given as goal

abbrev pub invariant-loop-label : goal.invariant-loop-label
invariant-loop-label g l = l.made.items ≡ map (λ x. g.R.Marked.marks_of l.resource x.value l.moment) (take l.label-index l.labels)
