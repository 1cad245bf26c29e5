use Rattle.std.proofs.Common.{◌≡◌, ◌∙◌, ap, of_z, sym, to_z, w64}
use Rattle.crew_flights.specs.declared.flight.Flight.{Flight}
use Rattle.crew_duty.specs.Machinery.Prices.{at_price}
use Rattle.crew_duty.proofs.Facts.{equal-flights}
use Rattle.crew_duty.proofs.priced.is_same_but_price.Goals as goal

pub returns : goal.returns
returns c = λ yes.
    let before = c.args.before.now in
    let flight = c.args.flight.now in
    let price = to_z w64 (of_z w64 flight.price) in
    let same : at_price price before ≡ flight = equal-flights (at_price price before) flight (sym c.eq.ensures ∙ yes) in
    sym same ∙ ap (λ p. at_price p before) (ap (λ (f : Flight). f.price) same)
