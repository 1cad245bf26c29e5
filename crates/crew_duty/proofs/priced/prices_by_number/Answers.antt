use Rattle.std.proofs.Common.{◌≡◌, ◌<◌, ◌∙◌, arith, ap, get_or, length, of_z, set, subst, sym, to_z, w64}
use Rattle.std.proofs.lemmas.Int.{ints}
use Rattle.std.proofs.lemmas.List.{get_or_default, length-set}
use Rattle.crew_flights.specs.Timetable.{IsFlight}
use Rattle.crew_flights.specs.declared.flight.Flight.{Flight}
use Rattle.crew_duty.proofs.NewPrices.{flight-at, held-set, limits-set}
use Rattle.crew_duty.proofs.priced.prices_by_number.Goals as goal

pub loop-flight-preserved : goal.loop-flight-preserved
loop-flight-preserved c =
    let flights = c.args.flights.now in
    let old = c.loop-flight.prices.items in
    let f = c.flight-item.result in
    let place = c.loop-flight.flight-index in
    let here = c.loop-flight-test.true in
    let at : (d : Flight) → get_or flights place d ≡ f = λ d. get_or_default flights place d f here ∙ sym c.flight-item.is in
    let sound : IsFlight f.id f = subst (λ (g : Flight). IsFlight g.id g) (at f) (flight-at flights place f c.requires.1.each here) in
    let least = sound.least_price in
    let most = sound.most_price in
    let id : c.get.result ≡ f.id = c.get.ensures.value in
    let fits : to_z w64 (of_z w64 f.price) ≡ f.price = omega (arith, ints, least, most) in
    let room : f.id < length old = subst (λ (g : Flight). g.id < length old) (at f) (c.loop-flight.invariant.room place f here) in
    let whole : set old c.get.result (to_z w64 (of_z w64 f.price)) ≡ set old f.id f.price = λ i. set old (id i) (fits i) in
    let long = ap length whole ∙ length-set old f.id f.price in
    record {
      room = λ i d k. rw long (c.loop-flight.invariant.room i d k);
      held = rw whole (held-set flights old place f c.requires.1.rising here at room c.loop-flight.invariant.held);
      limits = rw whole (limits-set old f.id f.price c.loop-flight.invariant.limits room (least, most));
    }
