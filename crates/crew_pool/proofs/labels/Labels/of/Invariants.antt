use Rattle.std.proofs.Common.{◌≡◌, map, take}
use Rattle.crew_pool.proofs.labels.Labels.of.Given as goal

-- the marks are of the labels so far
abbrev pub invariant-loop-label : goal.invariant-loop-label
invariant-loop-label g l = l.columns.rows ≡ map (λ e. g.R.Marked.marks_of e.0) (take l.label-index l.label-items)
