use Rattle.std.proofs.Common.{◌∙◌, ◌<◌, List, Some, ap, get_or, length, subst}
use Rattle.crew_pairing.specs.declared.events.Departure.{Departure}
use Rattle.crew_job.proofs.crew_step_lemmas.Loops.{item-at}
use Rattle.crew_board.proofs.before.departure_place.Goals as goal

pub returns-then-is_same_departure : goal.returns-then-is_same_departure
returns-then-is_same_departure c =
    let net = c.args.net.now in
    let place = c.partition_point-place.result in
    let at = c.index-departures-place.result in
    let events = c.departures-departures.ensures.events in
    let low = subst (λ (l : List Departure). place < length l) events c.if-place-departures.false in
    let is = c.index-departures-place.is ∙ ap (λ (l : List Departure). get_or l place at) events in
    item-at net.departures place at low is ∙ ap Some (c.is_same_departure.ensures c.if-is_same_departure.true ∙ c.departure-departure.ensures)
