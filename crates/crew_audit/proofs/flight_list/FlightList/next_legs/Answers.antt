use Rattle.std.proofs.Common.{arith}
use Rattle.std.proofs.lemmas.Int.{ints}
use Rattle.crew_pairing.specs.Legality.{may_follow}
use Rattle.crew_audit.proofs.Leaving.{among-fewer}
use Rattle.crew_audit.proofs.Spans.{follows-within}
use Rattle.crew_audit.proofs.flight_list.FlightList.next_legs.Goals as goal

pub returns : goal.returns
returns c =
    let s = c.args.settings.now in
    let last = c.args.last.now in
    let r = c.get-arrival.ensures.range in
    among-fewer _ (may_follow s c.args.self.now.turns last) c.args.self.now.list c.legs_within.result.now
    (follows-within s c.args.self.now.turns last _ _ (omega (arith, ints, c.get-arrival.ensures.value, r.from, r.to)) (omega (arith, ints, c.get-arrival.ensures.value, r.from, r.to, c.from.ensures, c.requires.sit_most)))
    c.legs_within.ensures
