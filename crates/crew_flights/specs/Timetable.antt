-- A timetable: the flights that are held, the bases with their prices, and the turns and follow-ons
-- between flights.
use Rattle.std.specs.Prelude.{◌≡◌, ◌≢◌, ◌≤◌, ◌≤ℤ◌, ◌-ℤ◌, ℕ, ℤ, pos, negsuc, refl, List, Some, true}
use Rattle.std.specs.Ordering.{nat_cmp}
use Rattle.std.specs.Coded.{Coded, code_by, coded×, coded_ℕ, coded_ℤ, coded_list}
use Rattle.std.specs.FinMap as map
use Rattle.std.specs.BTreeMap.{BTreeMap, IsOrdered}
use Rattle.crew_flights.specs.Codes.{code_cmp, pair_cmp, is_airport}
use Rattle.crew_flights.specs.FollowOns.{FollowOns, Links, links_code}
use Rattle.crew_flights.specs.declared.flight.Flight.{Flight}

-- turns: of two flights, by their numbers, the least minutes on the ground between the arrival of the
-- first and the departure of the second, where the second is the next leg of a duty
abbrev pub Turns : Type 0
Turns = map.FinMap pair_cmp ℕ

-- flights by number, prices by the code of a base, turns, and follow-ons: of a flight, by number, the
-- one that is the next leg after it in each pairing, and of that one, the flight that it follows
pub record Timetable : Type 0 where
  pub flights : map.FinMap nat_cmp Flight
  pub bases : map.FinMap code_cmp ℤ
  pub turns : Turns
  pub follows : Links
  pub leads : Links

-- before any edit
abbrev pub empty_timetable : Timetable
empty_timetable = record {
  flights = map.empty;
  bases = map.empty;
  turns = map.empty;
  follows = map.empty;
  leads = map.empty;
}

-- a flight that may stand under a number: it flies for 1 to 1,440 minutes between two airports
pub record IsFlight (number : ℕ) (flight : Flight) : Type 0 where
  pub own : flight.id ≡ number
  pub least_block : pos 1 ≤ℤ (flight.arr -ℤ flight.dep)
  pub most_block : (flight.arr -ℤ flight.dep) ≤ℤ pos 1_440
  pub apart : flight.from ≢ flight.to
  pub least_price : negsuc 999_999_999 ≤ℤ flight.price
  pub most_price : flight.price ≤ℤ pos 1_000_000_000

-- a flight between airports
pub record JoinsAirports (flight : Flight) : Type 0 where
  pub leaves : is_airport flight.from ≡ true
  pub reaches : is_airport flight.to ≡ true

-- a price of a base
pub record IsBasePrice (price : ℤ) : Type 0 where
  pub least : negsuc 999_999_999 ≤ℤ price
  pub most : price ≤ℤ pos 1_000_000_000

-- a turn that may stand between two flights: both are held, and it is at most 1,441 minutes
pub record IsTurn (flights : map.FinMap nat_cmp Flight) (pair : ℕ × ℕ)
    (minutes : ℕ) : Type 0 where
  pub before : map.contains_key flights pair.0 ≡ true
  pub after : map.contains_key flights pair.1 ≡ true
  pub most : minutes ≤ 1_441

-- a flight that may follow another: both are held, and none follows itself
pub record IsFollowOn (flights : map.FinMap nat_cmp Flight) (before after : ℕ) : Type 0 where
  pub before_held : map.contains_key flights before ≡ true
  pub after_held : map.contains_key flights after ≡ true
  pub apart : before ≢ after

-- what one map says of two flights the other says of them the other way round
abbrev pub IsMirrored : Links → Links → Type 0
IsMirrored links mirror = (a b : ℕ) → map.get links a ≡ Some b → map.get mirror b ≡ Some a

-- what edits keep
pub record IsSound (t : Timetable) : Type 0 where
  pub flights : (number : ℕ) (flight : Flight) → map.get t.flights number ≡ Some flight
      → IsFlight number flight
  pub airports : (number : ℕ) (flight : Flight) → map.get t.flights number ≡ Some flight
      → JoinsAirports flight
  pub bases : (code : List ℕ) (price : ℤ) → map.get t.bases code ≡ Some price → IsBasePrice price
  pub base_airports : (code : List ℕ) (price : ℤ) → map.get t.bases code ≡ Some price
      → is_airport code ≡ true
  pub turns : (pair : ℕ × ℕ) (minutes : ℕ) → map.get t.turns pair ≡ Some minutes
      → IsTurn t.flights pair minutes
  pub follow_ons : (before after : ℕ) → map.get t.follows before ≡ Some after
      → IsFollowOn t.flights before after
  pub leads : IsMirrored t.follows t.leads
  pub follows : IsMirrored t.leads t.follows
  pub few_flights : map.len t.flights ≤ 5_000
  pub few_bases : map.len t.bases ≤ 16
  pub few_turns : map.len t.turns ≤ 10_000

-- what maps in memory hold
abbrev pub timetable_of : BTreeMap ℕ Flight → BTreeMap (List ℕ) ℤ → BTreeMap (ℕ × ℕ) ℕ → FollowOns
    → Timetable
timetable_of flights bases turns follow_ons = record {
  flights = map.from_sorted flights.entries;
  bases = map.from_sorted bases.entries;
  turns = map.from_sorted turns.entries;
  follows = follow_ons.follows;
  leads = follow_ons.leads;
}

-- what a type keeps of them
pub record IsKept (flights : BTreeMap ℕ Flight) (bases : BTreeMap (List ℕ) ℤ)
    (turns : BTreeMap (ℕ × ℕ) ℕ) (follow_ons : FollowOns) : Type 0 where
  pub flights_ordered : IsOrdered nat_cmp flights
  pub bases_ordered : IsOrdered code_cmp bases
  pub turns_ordered : IsOrdered pair_cmp turns
  pub sound : IsSound (timetable_of flights bases turns follow_ons)

-- a flight is stored as its fields
abbrev pub flight_code : Coded Flight
flight_code =
    code_by ((ℕ × (ℕ × ℤ)) × ((List ℕ × List ℕ) × (ℤ × ℤ)))
    (coded× (coded× coded_ℕ (coded× coded_ℕ coded_ℤ))
    (coded× (coded× (coded_list coded_ℕ) (coded_list coded_ℕ)) (coded× coded_ℤ coded_ℤ)))
    (λ f. ((f.id, (f.report_clock, f.price)), ((f.from, f.to), (f.dep, f.arr))))
    (λ p. record {
      id = p.0.0;
      from = p.1.0.0;
      to = p.1.0.1;
      dep = p.1.1.0;
      arr = p.1.1.1;
      report_clock = p.0.1.0;
      price = p.0.1.1;
    })
    (λ _. refl)

-- turns are stored as their entries
abbrev pub turns_code : Coded Turns
turns_code = map.code (coded× coded_ℕ coded_ℕ) coded_ℕ

-- a timetable is stored as its five maps
abbrev pub timetable_code : Coded Timetable
timetable_code =
    code_by ((map.FinMap nat_cmp Flight × map.FinMap code_cmp ℤ) × (Turns × (Links × Links)))
    (coded× (coded× (map.code coded_ℕ flight_code) (map.code (coded_list coded_ℕ) coded_ℤ))
    (coded× turns_code (coded× links_code links_code)))
    (λ t. ((t.flights, t.bases), (t.turns, (t.follows, t.leads))))
    (λ p. record {
      flights = p.0.0;
      bases = p.0.1;
      turns = p.1.0;
      follows = p.1.1.0;
      leads = p.1.1.1;
    })
    (λ _. refl)
