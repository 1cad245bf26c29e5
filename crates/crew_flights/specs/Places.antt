-- The places that flights link in pairings: a flight and the one that follows it meet at a place of
-- their own, which no other flight leaves or reaches.
use Rattle.std.specs.Prelude.{ℕ, Bool, cond, List, Option, Some, None}
use Rattle.std.specs.FinMap as map
use Rattle.std.specs.Option.{option_map}
use Rattle.crew_flights.specs.Codes.{own_place}
use Rattle.crew_flights.specs.Timetable.{Timetable}
use Rattle.crew_flights.specs.declared.flight.Flight.{Flight}

-- where a flight leaves: the place of the flight that it follows, or its airport where it follows none
abbrev pub leaves_from : Option ℕ → List ℕ → List ℕ
leaves_from None airport = airport
leaves_from (Some before) airport = own_place before

-- where a flight arrives: a place of its own where another follows it, or else its airport
abbrev pub arrives_at : Bool → ℕ → List ℕ → List ℕ
arrives_at followed number airport = cond followed (own_place number) airport

-- a flight as pairings see it: clocks, times and price stay
abbrev pub placed : Timetable → Flight → Flight
placed t flight = record flight {
  from = leaves_from (map.get t.leads flight.id) flight.from;
  to = arrives_at (map.contains_key t.follows flight.id) flight.id flight.to;
}

-- the flight of a number as pairings see it, where it is held
abbrev pub placed_flight : Timetable → ℕ → Option Flight
placed_flight t number = option_map (placed t) (map.get t.flights number)
