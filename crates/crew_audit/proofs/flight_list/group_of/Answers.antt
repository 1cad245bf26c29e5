use Rattle.std.proofs.Common.{List, subst}
use Rattle.crew_flights.specs.declared.flight.Flight.{Flight}
use Rattle.crew_audit.specs.Machinery.Leaving.{AreBlocks, leaves}
use Rattle.crew_audit.proofs.Leaving.{among-made}
use Rattle.crew_audit.proofs.flight_list.group_of.Goals as goal

pub returns : goal.returns
returns c = record {
  all = among-made (leaves c.args.airport) c.args.flights.now c.in_ok-flights.flights.items c.in_ok-flights.ensures;
  legs = subst (λ (fs : List Flight). AreBlocks fs c.in_ok-legs.legs.items) c.deref.ensures.value c.in_ok-legs.ensures;
  days = subst (λ (fs : List Flight). AreBlocks fs c.in_ok-days.days.items) c.deref-3.ensures.value c.in_ok-days.ensures;
}
