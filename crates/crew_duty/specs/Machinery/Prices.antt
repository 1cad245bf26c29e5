-- What new prices of flights change of the duties over them.
use Rattle.std.specs.Prelude.{◌≡◌, ◌<◌, ◌≤◌, ◌≤ℤ◌, ℕ, ℤ, pos, negsuc, List, get_or, if◌then◌else◌, length}
use Rattle.crew_flights.specs.declared.flight.Flight.{Flight}
use Rattle.crew_resource.specs.Members.{Each}
use Rattle.crew_pairing.specs.Flights.{Flights}
use Rattle.crew_pairing.specs.Legality.{total}
use Rattle.crew_pairing.specs.Legs.{Leg}
use Rattle.crew_pairing.specs.declared.duty.Duty.{Duty}

-- a flight at another price
abbrev pub at_price : ℤ → Flight → Flight
at_price price f = record {
  id = f.id;
  from = f.from;
  to = f.to;
  dep = f.dep;
  arr = f.arr;
  report_clock = f.report_clock;
  price = price;
}

-- the same flights, one by one, but for their prices, and the same turns
pub record AreSameButPrices (flights before : Flights) : Type 0 where
  pub count : length flights.list ≡ length before.list
  pub each : (i : ℕ) (d : Flight) → i < length flights.list
      → get_or flights.list i d ≡ at_price (get_or flights.list i d).price (get_or before.list i d)
  pub turns : flights.turns ≡ before.turns

-- prices by the numbers of flights: 0 at a number that no flight has
abbrev pub price_at : List ℤ → ℕ → ℤ
price_at prices number = get_or prices number (pos 0)

-- each of these flights has the price that stands at its number
abbrev pub HavePrices : List ℤ → List Flight → Type 0
HavePrices prices flights = Each (λ f. price_at prices f.id ≡ f.price) flights

-- each price is one that a flight may have
abbrev pub AreInLimits : List ℤ → Type 0
AreInLimits prices = (n : ℕ) → (negsuc 999_999_999 ≤ℤ price_at prices n)
    × (price_at prices n ≤ℤ pos 1_000_000_000)

-- the price of a leg, if the crew flies it
abbrev pub leg_price : List ℤ → Leg → ℤ
leg_price prices l = if l.deadhead then pos 0 else price_at prices l.flight

-- a duty under these prices
abbrev pub under_prices : List ℤ → Duty → Duty
under_prices prices d = record {
  key = d.key;
  from = d.from;
  to = d.to;
  report = d.report;
  release = d.release;
  fdp = d.fdp;
  fly = d.fly;
  pay = d.pay;
  price = total (leg_price prices) d.key;
}

-- no duty has more legs than a legal one may have
abbrev pub HaveFewLegs : List Duty → Type 0
HaveFewLegs duties = Each (λ d. length d.key ≤ 8) duties
