use Rattle.std.proofs.Common.{◌≡◌, ◌<◌, ℕ, get_or}
use Rattle.crew_flights.specs.declared.flight.Flight.{Flight}
use Rattle.crew_duty.specs.Machinery.Prices.{at_price}
use Rattle.crew_duty.proofs.priced.are_same_but_prices.Given as goal

abbrev pub invariant-loop-place : goal.invariant-loop-place
invariant-loop-place l = (i : ℕ) (d : Flight) → i < l.place → get_or l.flights i d ≡ at_price (get_or l.flights i d).price (get_or l.before i d)
