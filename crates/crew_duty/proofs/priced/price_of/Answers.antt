use Rattle.std.proofs.Common.{◌≡◌, ◌+ℤ◌, ap, arith, get_or, of_z, to_z, w64}
use Rattle.std.proofs.lemmas.Int.{ints}
use Rattle.crew_pairing.proofs.Sums.{total-take}
use Rattle.crew_duty.specs.Machinery.Prices.{leg_price}
use Rattle.crew_duty.proofs.priced.price_of.Goals as goal

pub loop-leg-preserved : goal.loop-leg-preserved
loop-leg-preserved c =
    let flown = c.leg_price-sum.ensures in
    let price = leg_price c.args.prices.now in
    let read : price c.leg-item.result ≡ price (get_or c.args.legs.now c.loop-leg.leg-index c.leg-item.result) = ap price c.leg-item.is in
    let more = total-take price c.args.legs.now c.loop-leg.leg-index c.leg-item.result c.loop-leg-test.true in
    let fits : to_z w64 (of_z w64 (c.loop-leg.sum +ℤ c.leg_price-sum.result)) ≡ c.loop-leg.sum +ℤ c.leg_price-sum.result = omega (arith, ints) in
    (omega (arith, ints, fits, flown.value, read, more, c.loop-leg.invariant.0), omega (arith, ints), omega (arith, ints))
