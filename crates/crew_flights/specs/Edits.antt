-- What an edit does to a timetable: the first refusal that applies, or the change.
use Rattle.std.specs.Prelude.{◌∷◌, ◌&&◌, ◌||◌, ◌-ℤ◌, ℕ, nat_le, ℤ, pos, negsuc, int_le, Bool, not, false, cond, List, [], Option, Some, None}
use Rattle.std.specs.Ordering.{eq_by_cmp, nat_cmp}
use Rattle.std.specs.FinMap as map
use Rattle.crew_flights.specs.Codes.{code_cmp, is_airport}
use Rattle.crew_flights.specs.FollowOns.{FollowOns, linked, unlinked, without_number}
use Rattle.crew_flights.specs.Timetable.{Timetable}
use Rattle.crew_flights.specs.declared.flight.Flight.{Flight}
use Rattle.crew_flights.specs.declared.edit.Edit.{Edit}
use Rattle.crew_flights.specs.declared.edit.Edit.TheVariants.{AddBase, BasePrice, AddFlight, Cancel, Retime, Price, Turn, TakeTurn, Follow, TakeFollow}
use Rattle.crew_flights.specs.declared.edit.Refusal.{Refusal}
use Rattle.crew_flights.specs.declared.edit.Refusal.TheVariants.{BaseExists, NoBase, FlightExists, NoFlight, BadTimes, SameAirport, WrongOrigin, PriceRange, TooManyFlights, TooManyBases, NoConnection, NoTurn, TurnRange, TooManyTurns, Taken, NoFollowOn, NoAirport}
use Rattle.crew_flights.specs.declared.edit.Verdict.{Verdict}
use Rattle.crew_flights.specs.declared.edit.Verdict.TheVariants.{Accepted, Refused}

-- ---- the tests

abbrev pub has_base : Timetable → List ℕ → Bool
has_base t code = map.contains_key t.bases code

abbrev pub has_flight : Timetable → ℕ → Bool
has_flight t number = map.contains_key t.flights number

abbrev pub has_turn : Timetable → ℕ → ℕ → Bool
has_turn t before after = map.contains_key t.turns (before, after)

-- another flight follows this one
abbrev pub is_followed : Timetable → ℕ → Bool
is_followed t number = map.contains_key t.follows number

-- this flight follows another one
abbrev pub is_led : Timetable → ℕ → Bool
is_led t number = map.contains_key t.leads number

abbrev pub is_taken : Timetable → ℕ → ℕ → Bool
is_taken t before after = is_followed t before || is_led t after

abbrev pub has_both : Timetable → ℕ → ℕ → Bool
has_both t before after = has_flight t before && has_flight t after

-- at most a billion points from zero
abbrev pub is_price : ℤ → Bool
is_price price = int_le (negsuc 999_999_999) price && int_le price (pos 1_000_000_000)

-- the arrival is 1 to 1,440 minutes after the departure
abbrev pub is_block : ℤ → ℤ → Bool
is_block dep arr = int_le (pos 1) (arr -ℤ dep) && int_le (arr -ℤ dep) (pos 1_440)

abbrev pub joins_airports : Flight → Bool
joins_airports flight = is_airport flight.from && is_airport flight.to

abbrev pub is_same_code : List ℕ → List ℕ → Bool
is_same_code = eq_by_cmp code_cmp

-- a flight that is held leaves another airport
abbrev pub leaves_elsewhere : Option Flight → List ℕ → Bool
leaves_elsewhere None from = false
leaves_elsewhere (Some flight) from = not (is_same_code flight.from from)

-- of two flights that are held, the second leaves where the first arrives, and no earlier
abbrev pub connects : Option Flight → Option Flight → Bool
connects None after = false
connects (Some before) None = false
connects (Some before) (Some after) = is_same_code before.to after.from
    && int_le before.arr after.dep

-- ---- the refusals that an edit can meet, in the order of their numbers, each where its test holds

abbrev pub refusals : Timetable → Edit → List (Bool × Refusal)
refusals t (AddBase code price) = (has_base t code, BaseExists) ∷
    (not (is_price price), PriceRange) ∷ (nat_le 16 (map.len t.bases), TooManyBases) ∷
    (not (is_airport code), NoAirport) ∷ []
refusals t (BasePrice code price) = (not (has_base t code), NoBase) ∷
    (not (is_price price), PriceRange) ∷ []
refusals t (AddFlight flight) = (has_flight t flight.id, FlightExists) ∷
    (not (is_block flight.dep flight.arr), BadTimes) ∷
    (is_same_code flight.from flight.to, SameAirport) ∷ (not (is_price flight.price), PriceRange)
    ∷ (nat_le 5_000 (map.len t.flights), TooManyFlights) ∷
    (not (joins_airports flight), NoAirport) ∷ []
refusals t (Cancel id) = (not (has_flight t id), NoFlight) ∷ []
refusals t (Retime id from dep arr report_clock) = (not (has_flight t id), NoFlight) ∷
    (not (is_block dep arr), BadTimes) ∷
    (leaves_elsewhere (map.get t.flights id) from, WrongOrigin) ∷ []
refusals t (Price id price) = (not (has_flight t id), NoFlight) ∷
    (not (is_price price), PriceRange) ∷ []
refusals t (Turn before after minutes) = (not (has_both t before after), NoFlight) ∷
    (not (connects (map.get t.flights before) (map.get t.flights after)), NoConnection) ∷
    (not (nat_le minutes 1_441), TurnRange)
    ∷ (not (has_turn t before after) && nat_le 10_000 (map.len t.turns), TooManyTurns) ∷ []
refusals t (TakeTurn before after) = (not (has_both t before after), NoFlight) ∷
    (not (has_turn t before after), NoTurn) ∷ []
refusals t (Follow before after) = (not (has_both t before after), NoFlight) ∷
    (not (connects (map.get t.flights before) (map.get t.flights after)), NoConnection) ∷
    (is_taken t before after, Taken) ∷ []
refusals t (TakeFollow before) = (not (has_flight t before), NoFlight) ∷
    (not (is_followed t before), NoFollowOn) ∷ []

abbrev pub first_of : List (Bool × Refusal) → Option Refusal
first_of [] = None
first_of (test ∷ tests) = cond test.0 (Some test.1) (first_of tests)

-- the first that applies
abbrev pub refusal_of : Timetable → Edit → Option Refusal
refusal_of t edit = first_of (refusals t edit)

-- ---- the changes

abbrev pub with_base : Timetable → List ℕ → ℤ → Timetable
with_base t code price = record t { bases = map.insert t.bases code price }

abbrev pub with_flight : Timetable → ℕ → Flight → Timetable
with_flight t number flight = record t { flights = map.insert t.flights number flight }

-- which flight follows which
abbrev pub follow_ons_of : Timetable → FollowOns
follow_ons_of t = record { follows = t.follows; leads = t.leads }

abbrev pub with_follow_ons : Timetable → FollowOns → Timetable
with_follow_ons t f = record t { follows = f.follows; leads = f.leads }

-- the turns and the follow-ons before and after a flight go with it
abbrev pub is_turn_of : ℕ → ℕ × ℕ → Bool
is_turn_of number pair = eq_by_cmp nat_cmp pair.0 number || eq_by_cmp nat_cmp pair.1 number

abbrev pub without_flight : Timetable → ℕ → Timetable
without_flight t number = record (with_follow_ons t (without_number (follow_ons_of t) number)) {
  flights = map.remove t.flights number;
  turns = map.retain_keys t.turns (λ pair. not (is_turn_of number pair));
}

abbrev pub with_turn : Timetable → ℕ → ℕ → ℕ → Timetable
with_turn t before after minutes = record t { turns = map.insert t.turns (before, after) minutes }

abbrev pub without_turn : Timetable → ℕ → ℕ → Timetable
without_turn t before after = record t { turns = map.remove t.turns (before, after) }

abbrev pub with_follow : Timetable → ℕ → ℕ → Timetable
with_follow t before after = with_follow_ons t (linked (follow_ons_of t) before after)

abbrev pub without_follow : Timetable → ℕ → Timetable
without_follow t before = with_follow_ons t (unlinked (follow_ons_of t) before)

-- a flight, where it is held, stands changed under its number
abbrev pub with_changed : Timetable → ℕ → Option Flight → (Flight → Flight) → Timetable
with_changed t number None change = t
with_changed t number (Some flight) change = with_flight t number (change flight)

abbrev pub retimed : ℤ → ℤ → ℕ → Flight → Flight
retimed dep arr report_clock flight = record flight
    { dep = dep; arr = arr; report_clock = report_clock }

abbrev pub repriced : ℤ → Flight → Flight
repriced price flight = record flight { price = price }

abbrev pub changed : Timetable → Edit → Timetable
changed t (AddBase code price) = with_base t code price
changed t (BasePrice code price) = with_base t code price
changed t (AddFlight flight) = with_flight t flight.id flight
changed t (Cancel id) = without_flight t id
changed t (Retime id from dep arr report_clock) = with_changed t id (map.get t.flights id)
    (retimed dep arr report_clock)
changed t (Price id price) = with_changed t id (map.get t.flights id) (repriced price)
changed t (Turn before after minutes) = with_turn t before after minutes
changed t (TakeTurn before after) = without_turn t before after
changed t (Follow before after) = with_follow t before after
changed t (TakeFollow before) = without_follow t before

-- ---- an edit: refused with no change, or accepted

abbrev pub applied : Timetable → Edit → Option Refusal → Timetable × Verdict
applied t edit None = (changed t edit, Accepted)
applied t edit (Some refusal) = (t, Refused refusal)

abbrev pub apply_of : Timetable → Edit → Timetable × Verdict
apply_of t edit = applied t edit (refusal_of t edit)
