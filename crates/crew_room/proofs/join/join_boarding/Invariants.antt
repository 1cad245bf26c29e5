use Rattle.std.proofs.Common.{◌≡◌, take}
use Rattle.std.specs.List.Sorted.{IsPermutation}
use Rattle.crew_label.specs.Boarding.{boarded_from}
use Rattle.crew_label.specs.Pools.{stands_label}
use Rattle.crew_label.specs.declared.label.Label.{Label}
use Rattle.crew_room.specs.Machinery.Joins.{free_of}
use Rattle.crew_room.proofs.join.join_boarding.Given as goal

-- of what boards so far the free ones wait
abbrev pub invariant-loop-place : goal.invariant-loop-place
invariant-loop-place g l = record {
  order : IsPermutation l.fn.held l.held;
  free : l.free ≡ free_of (λ (a b : Label g.row.R-Value.Denot). stands_label g.R.Resource.below g.R.Forgets.same_sums (g.T.Trails.trail l.trails) a b) l.held (boarded_from (λ v. g.R.Staged.boards l.resource v l.item) l.duty 0 (take l.place l.labels));
}
