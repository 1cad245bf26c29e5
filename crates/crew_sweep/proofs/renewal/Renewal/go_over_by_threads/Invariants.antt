use Rattle.std.proofs.Common.{◌≡◌, length}
use Rattle.crew_sweep.specs.Machinery.Beside.{StandsBeside}
use Rattle.crew_sweep.proofs.renewal.Renewal.go_over_by_threads.Given as goal

-- so many departures are passed
abbrev pub invariant-loop-departure : goal.invariant-loop-departure
invariant-loop-departure g l = StandsBeside l.earlier l.ground l.self × (length l.self.passing.passed.pools ≡ l.departure-index)
