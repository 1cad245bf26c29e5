use Rattle.std.proofs.Common.{◌≡◌, ◌+ℤ◌, ap, arith, get_or, of_z, to_z, w64}
use Rattle.std.proofs.lemmas.Int.{ints}
use Rattle.crew_pairing.specs.Legality.{minutes_flown}
use Rattle.crew_pairing.proofs.Sums.{total-take}
use Rattle.crew_pairing.proofs.facts.flight_time.Goals as goal

pub loop-leg-preserved : goal.loop-leg-preserved
loop-leg-preserved c =
    let flown = c.minutes_flown-minutes-in-loop-leg.ensures in
    let read : minutes_flown c.leg-item.result ≡ minutes_flown (get_or c.args.others.now c.loop-leg.leg-index c.leg-item.result) = ap minutes_flown c.leg-item.is in
    let more = total-take minutes_flown c.args.others.now c.loop-leg.leg-index c.leg-item.result c.loop-leg-test.true in
    let fits : to_z w64 (of_z w64 (c.loop-leg.minutes +ℤ c.minutes_flown-minutes-in-loop-leg.result)) ≡ c.loop-leg.minutes +ℤ c.minutes_flown-minutes-in-loop-leg.result = omega (arith, ints) in
    (omega (arith, ints, fits, flown.value, read, more, c.loop-leg.invariant.0), omega (arith, ints), omega (arith, ints))
