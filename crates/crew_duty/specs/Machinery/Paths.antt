-- What the search keeps of the legs of a path.
use Rattle.std.specs.Prelude.{◌≡◌, ◌≤◌, ℕ, Bool, length, List, ◌∷◌, Some, false, true, filter, map, slice_get}
use Rattle.std.specs.List.{flat_map}
use Rattle.crew_flights.specs.declared.flight.Flight.{Flight}
use Rattle.crew_rules.specs.declared.settings.Settings.{Settings}
use Rattle.crew_pairing.specs.Flights.{Flights}
use Rattle.crew_pairing.specs.Legality.{last_of, leg_of, may_follow}
use Rattle.crew_pairing.specs.Legs.{Leg}
use Rattle.crew_pairing.specs.Machinery.Beginnings.{IsBeginning}
use Rattle.crew_pairing.specs.Machinery.Listing.{below, is_hopeless}
use Rattle.crew_pairing.specs.declared.leg.TimedLeg.{TimedLeg}
use Rattle.crew_pairing.specs.declared.duty.Duty.{Duty}
use Rattle.crew_duty.specs.Machinery.Running.{AreTotals}
use Rattle.crew_duty.specs.declared.totals.Totals.{Totals}

-- legs that may begin a duty, by their key and by what they come to
pub record IsPath (s : Settings) (flights : Flights) (first : TimedLeg)
    (others : List TimedLeg) (key : List Leg) (totals : Totals) : Type 0 where
  pub few : length others ≤ 7
  pub beginning : IsBeginning s flights first others
  pub hope : is_hopeless s first others ≡ false
  pub is_key : key ≡ map leg_of (first ∷ others)
  pub are_totals : AreTotals (first ∷ others) totals

-- the last of some legs is of the flight at a place
abbrev pub LastAt : List Flight → TimedLeg → List TimedLeg → ℕ → Type 0
LastAt flights first others last = slice_get flights last ≡ Some (last_of first others).flight

-- and it is ridden or flown
pub record EndsAt (flights : List Flight) (first : TimedLeg) (others : List TimedLeg) (last : ℕ)
    (ridden : Bool) : Type 0 where
  pub flight : LastAt flights first others last
  pub is_ridden : ridden ≡ (last_of first others).deadhead

-- a flight at a place may follow the last of some legs
pub record GoesOn (s : Settings) (flights : Flights) (first : TimedLeg)
    (others : List TimedLeg) (place : ℕ) (g : Flight) : Type 0 where
  pub flight : slice_get flights.list place ≡ Some g
  pub follows : may_follow s flights.turns (last_of first others).flight g ≡ true

-- the duties that begin with these legs and go on, with fewer than `room` legs more
abbrev pub onward : ℕ → Settings → Flights → TimedLeg → List TimedLeg → List Duty
onward room s flights first others = flat_map (below room s flights first others)
    (filter (may_follow s flights.turns (last_of first others).flight) flights.list)
