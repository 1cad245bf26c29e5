use Rattle.std.proofs.Common.{◌≡◌, ◌*◌, ◌≤ℤ◌, ◌-ℤ◌, pos, take}
use Rattle.crew_pairing.specs.Legality.{total}
use Rattle.crew_duty.specs.Machinery.Prices.{leg_price}
use Rattle.crew_duty.proofs.priced.price_of.Given as goal

abbrev pub invariant-loop-leg : goal.invariant-loop-leg
invariant-loop-leg l =
    (l.sum ≡ total (leg_price l.prices) (take l.leg-index l.legs))
    × ((pos 0 -ℤ pos (1_000_000_000 * l.leg-index)) ≤ℤ l.sum)
    × (l.sum ≤ℤ pos (1_000_000_000 * l.leg-index))
