use Rattle.std.proofs.Common.{◌≤◌, ◌-◌, length}
use Rattle.crew_pool.proofs.LabelLemmas.{NoneOf}
use Rattle.crew_pool.proofs.labels.Labels.first_at_most.Given as goal

-- none of the labels so far is at most the value
abbrev pub invariant-loop-place : goal.invariant-loop-place
invariant-loop-place g l = record {
  within : l.from ≤ length l.self;
  none : NoneOf (λ e. g.R.Marked.marks_of e.0) (λ e. g.R.Resource.below e.0 l.value) l.self l.from;
}

abbrev pub decreases-loop-place : goal.decreases-loop-place
decreases-loop-place g l = length l.self - l.from
