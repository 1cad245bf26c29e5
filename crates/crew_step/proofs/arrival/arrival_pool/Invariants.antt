use Rattle.std.proofs.Common.{false, map, take}
use Rattle.crew_pool.specs.Counted.{AreCounted}
use Rattle.crew_pool.specs.LabelWalks.{IsPoolOf, shown}
use Rattle.crew_step.specs.Pools.{boarded}
use Rattle.crew_step.proofs.arrival.arrival_pool.Given as goal

-- what the ranks so far bring
abbrev pub invariant-loop-rank : goal.invariant-loop-rank
invariant-loop-rank g l =
    IsPoolOf g.R.Resource.below (boarded {V = g.row.R-Value.Denot} l.walks (g.R.Staged.boards l.resource) l.duties l.positions l.pools (take l.rank-index l.ranks)) (map (shown {V = g.row.R-Value.Denot} l.walks) l.pool)
    × AreCounted {V = g.row.R-Value.Denot} (g.R.Staged.count_of l.resource) l.walks false l.pool
