use Rattle.std.proofs.Common.{◌≤◌, ◌-◌, length}
use Rattle.crew_label.specs.Pools.{stands_label}
use Rattle.crew_label.specs.declared.label.Label.{Label}
use Rattle.crew_pool.proofs.LabelLemmas.{NoneOf}
use Rattle.crew_room.proofs.held.Held.first_standing.Given as goal

-- none of the labels so far may stand for it
abbrev pub invariant-loop-place : goal.invariant-loop-place
invariant-loop-place g l = record {
  within : l.from ≤ length l.self;
  none : NoneOf (λ (e : Label g.row.R-Value.Denot). g.R.Glanced.glance_of e.value) (λ (e : Label g.row.R-Value.Denot). stands_label g.R.Resource.below g.R.Forgets.same_sums (g.T.Trails.trail l.trails) e l.label) l.self l.from;
}

abbrev pub decreases-loop-place : goal.decreases-loop-place
decreases-loop-place g l = length l.self - l.from
