use Rattle.std.proofs.Common.{Bor}
use Rattle.crew_flights.specs.declared.flight.Flight.{Flight}
use Rattle.crew_resource.specs.Members.{Each}
use Rattle.crew_time.specs.Instant.{IsInstant}
use Rattle.crew_plan.proofs.dates.see_dates.Given as goal

abbrev pub invariant-loop-flight : goal.invariant-loop-flight
invariant-loop-flight l = Each (λ (flight : Bor Flight). IsInstant flight.now.dep) l.yielded
