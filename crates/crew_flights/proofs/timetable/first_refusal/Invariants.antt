use Rattle.std.proofs.Common.{◌≡◌, drop}
use Rattle.crew_flights.specs.Edits.{first_of}
use Rattle.crew_flights.proofs.timetable.first_refusal.Given as goal

abbrev pub invariant-loop-applies : goal.invariant-loop-applies
invariant-loop-applies l = first_of (drop l.applies-index l.tests) ≡ first_of l.tests
