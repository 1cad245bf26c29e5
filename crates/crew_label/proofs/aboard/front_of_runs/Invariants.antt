use Rattle.std.proofs.Common.{◌-◌, length}
use Rattle.crew_label.proofs.Runs.{IsFrontBefore}
use Rattle.crew_label.proofs.aboard.front_of_runs.Given as goal

abbrev pub invariant-loop-from : goal.invariant-loop-from
invariant-loop-from g l =
    IsFrontBefore g.R.Value.Ord.cmp g.R.Resource.below g.R.Forgets.same_sums (g.T.Trails.trail l.trails) l.labels l.from l.front.items

abbrev pub decreases-loop-from : goal.decreases-loop-from
decreases-loop-from g l = length l.labels - l.from
