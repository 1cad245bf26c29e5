use Rattle.std.proofs.Common.{◌<◌, ◌≤◌, ℕ, get_or}
use Rattle.crew_pass.specs.Machinery.Seen.{AreSeen, StaySeen}
use Rattle.crew_pass.specs.Machinery.Shelves.{IsThere}
use Rattle.crew_pass.specs.Machinery.Terms.{terms}
use Rattle.crew_pass.proofs.seeing.see_fronts_between.Given as goal

-- the fronts so far have been seen
abbrev pub invariant-loop-rank : goal.invariant-loop-rank
invariant-loop-rank g l =
    AreSeen (terms g.R.Value.Ord.cmp g.R.Lapses g.R.Staged g.R.Forgets g.R.Resource l.ground) l.seen × StaySeen l.initial.seen l.seen
    × ((i : ℕ) → 0 ≤ i → i < l.rank-index → IsThere l.seen.fronts (get_or l.rank-items i 0))
