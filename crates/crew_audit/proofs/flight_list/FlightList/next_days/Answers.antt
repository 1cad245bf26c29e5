use Rattle.std.proofs.Common.{arith, false, []}
use Rattle.std.proofs.lemmas.Int.{ints}
use Rattle.crew_pairing.specs.Legality.{duty_of}
use Rattle.crew_pairing.specs.Machinery.Listing.{timed}
use Rattle.crew_pairing.specs.Pairings.{may_stand_after}
use Rattle.crew_audit.proofs.Leaving.{among-fewer}
use Rattle.crew_audit.proofs.Spans.{rests-within}
use Rattle.crew_audit.proofs.flight_list.FlightList.next_days.Goals as goal

pub returns : goal.returns
returns c =
    let s = c.args.settings.now in
    let last = c.args.last.now in
    let r = c.requires.range in
    let q = c.requires.checked in
    among-fewer _ (λ f. may_stand_after s last (duty_of s (timed false f) [])) c.args.self.now.list c.days_within.result.now
    (rests-within s last _ _ (omega (arith, ints, r.release, r.release_most, c.from.ensures, c.from-2.ensures, q.lead)) (omega (arith, ints, r.release, r.release_most, c.from.ensures, c.from-2.ensures, c.from-3.ensures, q.lead, q.max_rest_most)))
    c.days_within.ensures
