use Rattle.crew_sweep.specs.Machinery.Lanes.{AreLanes}
use Rattle.crew_sweep.proofs.lanes.go_on_each.Given as goal

-- the lanes so far have gone on, and the others are as they were
abbrev pub invariant-loop-lane : goal.invariant-loop-lane
invariant-loop-lane l =
    AreLanes l.ground.net.now l.passed.walks l.arrivals.made.items l.arrivals.pools.items l.gone.items
    × AreLanes l.ground.net.now l.passed.walks l.arrivals.made.items l.arrivals.pools.items l.lane-iterator.rest.items
