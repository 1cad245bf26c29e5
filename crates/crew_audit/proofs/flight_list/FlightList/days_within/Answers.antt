use Rattle.std.proofs.Common.{List, subst}
use Rattle.crew_flights.specs.declared.flight.Flight.{Flight}
use Rattle.crew_audit.specs.Machinery.Leaving.{AreAmong, departs_within}
use Rattle.crew_audit.proofs.Leaving.{among-group}
use Rattle.crew_audit.proofs.flight_list.FlightList.days_within.Goals as goal

pub returns-in-Some : goal.returns-in-Some
returns-in-Some c =
    let found = c.within.result.now in
    let own = subst (λ (fs : List Flight). AreAmong (departs_within c.args.span) fs found) c.deref.ensures.value c.within.ensures in
    among-group c.args.airport c.args.span c.args.self.now.list found c.in-Some.group.now c.in-Some.ensures.0 c.in-Some.ensures.1 own
