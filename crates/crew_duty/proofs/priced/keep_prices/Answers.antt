use Rattle.std.proofs.Common.{◌≡◌, ◌∷◌, ◌++◌, [], ◌∙◌, ap, ap₂, arith, map, sym}
use Rattle.std.proofs.lemmas.Int.{ints}
use Rattle.std.proofs.lemmas.List.{map-append}
use Rattle.crew_pairing.specs.Legality.{total}
use Rattle.crew_pairing.specs.Machinery.Blocks.{part_of}
use Rattle.crew_pairing.specs.declared.duty.Duty.{Duty}
use Rattle.crew_pairing.proofs.Blocks.{part-more}
use Rattle.crew_duty.specs.Machinery.Prices.{leg_price, under_prices}
use Rattle.crew_duty.proofs.NewPrices.{keeps-price}
use Rattle.crew_duty.proofs.priced.keep_prices.Goals as goal

pub loop-place-preserved : goal.loop-place-preserved
loop-place-preserved c =
    let prices = c.args.prices.now in
    let u = under_prices prices in
    let duties = c.args.duties.now in
    let from = c.args.from in
    let place = c.loop-place.place in
    let duty = c.at-duty.result.now in
    let so_far = part_of duties from place in
    let more = part-more duties from place duty (omega (arith, c.loop-place.auto.place)) c.at-duty.ensures in
    let priced : total (leg_price prices) duty.key ≡ duty.price = omega (arith, ints, ap (total (leg_price prices)) c.legs.ensures, c.price_of.ensures, c.if-price_of-duty.false) in
    let one : u duty ≡ duty = keeps-price prices duty priced in
    let both = map-append u so_far (duty ∷ []) ∙ ap₂ ◌++◌ c.loop-place.invariant (ap (λ (d : Duty). d ∷ []) one) in
    ap (map u) (sym more) ∙ (both ∙ more)
