-- The numbers of refusals.
use Rattle.std.specs.Prelude.{ℕ}
use Rattle.crew_flights.specs.declared.edit.Refusal.{Refusal}
use Rattle.crew_flights.specs.declared.edit.Refusal.TheVariants.{BaseExists, NoBase, FlightExists, NoFlight, BadTimes, SameAirport, WrongOrigin, PriceRange, TooManyFlights, TooManyBases, OutOfTurn, NoConnection, NoTurn, TurnRange, TooManyTurns, Taken, NoFollowOn, NoAirport}

abbrev pub number_of : Refusal → ℕ
number_of BaseExists = 21
number_of NoBase = 22
number_of FlightExists = 23
number_of NoFlight = 24
number_of BadTimes = 25
number_of SameAirport = 26
number_of WrongOrigin = 27
number_of PriceRange = 28
number_of TooManyFlights = 29
number_of TooManyBases = 30
number_of OutOfTurn = 31
number_of NoConnection = 32
number_of NoTurn = 33
number_of TurnRange = 34
number_of TooManyTurns = 35
number_of Taken = 36
number_of NoFollowOn = 37
number_of NoAirport = 38
