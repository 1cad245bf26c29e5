use Rattle.std.proofs.Common.{◌≡◌, length}
use Rattle.crew_sweep.specs.Machinery.Ahead.{AreAhead}
use Rattle.crew_sweep.specs.Machinery.Grounds.{Stands}
use Rattle.crew_sweep.proofs.passing.Passing.go_over_by_threads.Given as goal

-- so many departures are passed, and what is ahead is merged
abbrev pub invariant-loop-departure : goal.invariant-loop-departure
invariant-loop-departure g l =
    Stands l.ground l.self × (length l.self.passed.pools ≡ l.departure-index)
    × AreAhead l.ground.net.now l.self.passed.walks l.self.arrivals.made.items l.self.arrivals.pools.items l.ahead.rest.items
