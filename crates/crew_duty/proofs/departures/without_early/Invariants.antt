use Rattle.std.proofs.Common.{List, filter, take}
use Rattle.crew_flights.specs.declared.flight.Flight.{Flight}
use Rattle.crew_duty.specs.Machinery.Plans.{StandAt}
use Rattle.crew_duty.specs.Machinery.Turns.{is_late_enough}
use Rattle.crew_duty.proofs.departures.without_early.Given as goal

abbrev pub invariant-loop-place : goal.invariant-loop-place
invariant-loop-place l = (gs : List Flight) → StandAt l.flights l.places gs → StandAt l.flights l.kept.items (filter (is_late_enough l.settings l.own l.before) (take l.place-index gs))
