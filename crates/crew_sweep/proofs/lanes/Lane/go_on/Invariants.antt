use Rattle.std.proofs.Common.{◌≡◌}
use Rattle.crew_sweep.specs.Machinery.Lanes.{IsLane}
use Rattle.crew_sweep.proofs.lanes.Lane.go_on.Given as goal

abbrev pub invariant-loop-index : goal.invariant-loop-index
invariant-loop-index l = IsLane l.ground.net.now l.passed.walks l.arrivals.made.items l.arrivals.pools.items l.self × (l.self.positions ≡ l.fn.self.positions)
