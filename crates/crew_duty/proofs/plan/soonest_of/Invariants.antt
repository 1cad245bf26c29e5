use Rattle.std.proofs.Common.{◌≤ℤ◌, List, pos, take}
use Rattle.crew_flights.specs.declared.flight.Flight.{Flight}
use Rattle.crew_resource.specs.Members.{Each}
use Rattle.crew_duty.specs.Machinery.Plans.{StandAt}
use Rattle.crew_duty.proofs.plan.soonest_of.Given as goal

abbrev pub invariant-loop-place : goal.invariant-loop-place
invariant-loop-place l = record {
  before : (gs : List Flight) → StandAt l.flights l.places gs → Each (λ g. l.soonest ≤ℤ g.arr) (take l.place-index gs);
  least : pos 0 ≤ℤ l.soonest;
  most : l.soonest ≤ℤ pos 100_000_000;
}
