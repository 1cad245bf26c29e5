use Rattle.std.proofs.Common.{◌≡◌, ◌+ℤ◌, ap, arith, get_or, of_z, to_z, w64}
use Rattle.std.proofs.lemmas.Int.{ints}
use Rattle.crew_pairing.specs.Legality.{price_of}
use Rattle.crew_pairing.proofs.Sums.{total-take}
use Rattle.crew_pairing.proofs.facts.price.Goals as goal

pub loop-leg-preserved : goal.loop-leg-preserved
loop-leg-preserved c =
    let flown = c.price_flown-sum-in-loop-leg.ensures in
    let read : price_of c.leg-item.result ≡ price_of (get_or c.args.others.now c.loop-leg.leg-index c.leg-item.result) = ap price_of c.leg-item.is in
    let more = total-take price_of c.args.others.now c.loop-leg.leg-index c.leg-item.result c.loop-leg-test.true in
    let fits : to_z w64 (of_z w64 (c.loop-leg.sum +ℤ c.price_flown-sum-in-loop-leg.result)) ≡ c.loop-leg.sum +ℤ c.price_flown-sum-in-loop-leg.result = omega (arith, ints) in
    (omega (arith, ints, fits, flown.value, read, more, c.loop-leg.invariant.0), omega (arith, ints), omega (arith, ints))
