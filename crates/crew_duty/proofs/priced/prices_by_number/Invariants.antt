use Rattle.std.proofs.Common.{◌<◌, ℕ, get_or, length}
use Rattle.crew_flights.specs.declared.flight.Flight.{Flight}
use Rattle.crew_duty.specs.Machinery.Prices.{AreInLimits}
use Rattle.crew_duty.proofs.NewPrices.{HavePricesTo}
use Rattle.crew_duty.proofs.priced.prices_by_number.Given as goal

abbrev pub invariant-loop-flight : goal.invariant-loop-flight
invariant-loop-flight l = record {
  room : (i : ℕ) (d : Flight) → i < length l.flights → (get_or l.flights i d).id < length l.prices.items;
  held : HavePricesTo l.flight-index l.prices.items l.flights;
  limits : AreInLimits l.prices.items;
}
