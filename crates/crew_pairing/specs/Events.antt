-- The events that duties leave and arrive at, and bounds under which every sum over a pairing fits.
use Rattle.std.specs.Prelude.{◌≡◌, Bool, ◌&&◌, int_le, pos, negsuc, ◌-ℤ◌, ◌≤ℤ◌}
use Rattle.std.specs.Ordering.{eq_by_cmp}
use Rattle.crew_flights.specs.Codes.{code_cmp}
use Rattle.crew_pairing.specs.declared.duty.Duty.{Duty}
use Rattle.crew_pairing.specs.declared.events.Arrival.{Arrival}
use Rattle.crew_pairing.specs.declared.events.Departure.{Departure}
use Rattle.crew_rules.specs.declared.settings.Settings.{Settings}

abbrev pub departure_of : Duty → Departure
departure_of d = record { airport = d.from; report = d.report }

abbrev pub arrival_of : Duty → Arrival
arrival_of d = record { airport = d.to; release = d.release }

-- a duty that leaves at the departure may stand after one that ends at the arrival (117.25(e))
abbrev pub may_wait : Settings → Arrival → Departure → Bool
may_wait s x g =
    eq_by_cmp code_cmp x.airport g.airport
    && (int_le (pos 600) (g.report -ℤ x.release) && int_le (g.report -ℤ x.release) (pos s.max_rest))

-- a duty's numbers lie in the ranges of a legal one
pub record IsSound (d : Duty) : Type 0 where
  pub fdp : pos 0 ≤ℤ d.fdp
  -- the greatest limit of 117.13, Table B: 14 hours
  pub fdp_most : d.fdp ≤ℤ pos 840
  pub fly : pos 0 ≤ℤ d.fly
  -- the greatest limit of 117.11, Table A: 9 hours
  pub fly_most : d.fly ≤ℤ pos 540
  pub elapsed : pos 0 ≤ℤ (d.release -ℤ d.report)
  -- a flight duty period and the longest time from last arrival to release
  pub elapsed_most : (d.release -ℤ d.report) ≤ℤ pos 1_080
  pub pay : pos 0 ≤ℤ d.pay
  pub pay_most : d.pay ≤ℤ pos 20_000
  -- at most eight flights of 1,000,000,000 points
  pub price : negsuc 7_999_999_999 ≤ℤ d.price
  pub price_most : d.price ≤ℤ pos 8_000_000_000

-- a duty that leaves at the departure may stand just after one that ends at the arrival: it leaves
-- from there, after a rest of 10 consecutive hours (117.25(e)) or more, and no more than any
-- settings allow
pub record MayFollow (x : Arrival) (g : Departure) : Type 0 where
  pub airport : x.airport ≡ g.airport
  pub rest : pos 600 ≤ℤ (g.report -ℤ x.release)
  pub rest_most : (g.report -ℤ x.release) ≤ℤ pos 8_280
