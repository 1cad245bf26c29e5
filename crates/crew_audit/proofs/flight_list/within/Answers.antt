use Rattle.crew_audit.specs.Machinery.Leaving.{departs_within}
use Rattle.crew_audit.proofs.Leaving.{among-all, among-fewer}
use Rattle.crew_audit.proofs.flight_list.within.Goals as goal

pub returns-in-Some : goal.returns-in-Some
returns-in-Some c =
    let b = c.in-Some.block.now in
    rw c.deref.ensures.value (among-fewer (departs_within b.span) (departs_within c.args.span) c.args.flights.now b.flights.items c.in-Some.ensures.wider (c.requires b c.in-Some.ensures.there))

pub returns-in-None : goal.returns-in-None
returns-in-None c = among-all (departs_within c.args.span) c.args.flights.now
