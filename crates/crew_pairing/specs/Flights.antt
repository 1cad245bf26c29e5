-- The flights that duties are made of, and the turns between them.
use Rattle.std.specs.Prelude.{List, refl}
use Rattle.std.specs.Coded.{Coded, code_by, coded×, coded_list}
use Rattle.crew_flights.specs.Timetable.{Turns, flight_code, turns_code}
use Rattle.crew_flights.specs.declared.flight.Flight.{Flight}

-- flights by number, and turns
pub record Flights : Type 0 where
  pub list : List Flight
  pub turns : Turns

-- they are stored as the list and the turns
abbrev pub flights_code : Coded Flights
flights_code =
    code_by (List Flight × Turns) (coded× (coded_list flight_code) turns_code)
    (λ f. (f.list, f.turns)) (λ p. record { list = p.0; turns = p.1 }) (λ _. refl)
