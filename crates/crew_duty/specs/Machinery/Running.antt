-- What the legs so far come to.
use Rattle.std.specs.Prelude.{◌≡◌, ◌≤◌, ◌≤ℤ◌, negsuc, pos, List}
use Rattle.crew_pairing.specs.Legality.{deadheads, minutes_flown, price_of, segments, total}
use Rattle.crew_pairing.specs.declared.leg.TimedLeg.{TimedLeg}
use Rattle.crew_duty.specs.declared.totals.Totals.{Totals}

-- the sums of a whole list of legs
pub record AreTotals (legs : List TimedLeg) (totals : Totals) : Type 0 where
  pub deadheads : totals.deadheads ≡ deadheads legs
  pub segments : totals.segments ≡ segments legs
  pub fly : totals.fly ≡ total minutes_flown legs
  pub price : totals.price ≡ total price_of legs

-- sums that leave room for one leg more
pub record StayBounded (totals : Totals) : Type 0 where
  pub deadheads : totals.deadheads ≤ 8
  pub segments : totals.segments ≤ 8
  pub least_fly : pos 0 ≤ℤ totals.fly
  pub most_fly : totals.fly ≤ℤ pos 11_520
  pub least_price : negsuc 7_999_999_999 ≤ℤ totals.price
  pub most_price : totals.price ≤ℤ pos 8_000_000_000
