use Rattle.std.proofs.Common.{◌≡◌, ◌+◌, false, ◌*◌, ◌<◌, ◌≤◌, ℕ, get_or}
use Rattle.crew_pass.specs.Machinery.Passing.{after_all, arriving_ranks}
use Rattle.crew_pass.specs.Machinery.Seen.{AreSeen, StaySeen}
use Rattle.crew_pass.specs.Machinery.Shelves.{IsThere}
use Rattle.crew_pass.specs.Machinery.Terms.{terms}
use Rattle.crew_pass.proofs.seeing.+sight.Given as goal

-- back in time
abbrev pub decreases-see_departure : goal.decreases-see_departure
decreases-see_departure g l = 2 * l.position + 1

abbrev pub decreases-see_arrival : goal.decreases-see_arrival
decreases-see_arrival g l = 2 * after_all l.ground.now.positions.now (arriving_ranks l.ground.now.net.now l.place)

-- the arrivals so far have been seen
abbrev pub invariant-see_departure-loop-place : goal.invariant-see_departure-loop-place
invariant-see_departure-loop-place g l =
    AreSeen (terms g.R.Value.Ord.cmp g.R.Lapses g.R.Staged g.R.Forgets g.R.Resource l.ground) l.seen × StaySeen l.fn.seen l.seen
    × ((k : ℕ) → l.initial.place ≤ k → k < l.place → IsThere l.seen.arrivals k)
    × (g.R.Pooled.plain l.ground.resource.now ≡ false → (k : ℕ) → l.initial.place ≤ k → k < l.place → IsThere l.seen.rested k)

-- the departures so far have been seen
abbrev pub invariant-see_arrival-loop-rank : goal.invariant-see_arrival-loop-rank
invariant-see_arrival-loop-rank g l =
    AreSeen (terms g.R.Value.Ord.cmp g.R.Lapses g.R.Staged g.R.Forgets g.R.Resource l.ground) l.seen × StaySeen l.fn.seen l.seen
    × ((i : ℕ) → 0 ≤ i → i < l.rank-index → IsThere l.seen.departures (get_or l.ground.positions.now (get_or l.rank-items i 0) 0))
