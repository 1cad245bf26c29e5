-- What the search for duties works with.
use Rattle.std.specs.Prelude.{◌≡◌, ◌≤◌, ◌≤ℤ◌, ◌<ℤ◌, ℕ, ℤ, pos, List, length, [], ◌∷◌, None, Option, Some, drop, filter, slice_get, take, true, Vec}
use Rattle.std.specs.List.{flat_map}
use Rattle.crew_flights.specs.declared.flight.Flight.{Flight}
use Rattle.crew_rules.specs.Settings.{IsChecked}
use Rattle.crew_rules.specs.declared.settings.Settings.{Settings}
use Rattle.std.specs.Global.{Global}
use Rattle.crew_pairing.specs.Flights.{Flights}
use Rattle.crew_pairing.specs.Legality.{last_of, may_follow}
use Rattle.crew_pairing.specs.Machinery.Listing.{below}
use Rattle.crew_duty.specs.Machinery.Slots.{IsIndex}
use Rattle.crew_duty.specs.declared.departures.Slot.{Slot}
use Rattle.crew_duty.specs.declared.plan.Next.{Next}
use Rattle.crew_pairing.specs.declared.duty.Duty.{Duty}
use Rattle.crew_resource.specs.Members.{Each}
use Rattle.crew_pairing.specs.declared.leg.TimedLeg.{TimedLeg}
use Rattle.crew_pairing.specs.Machinery.Beginnings.{AreFlights}

-- the flights that stand at these places
abbrev pub StandAt : List Flight → List ℕ → List Flight → Type 0
StandAt flights [] [] = Unit {0}
StandAt flights [] (g ∷ gs) = ⊥
StandAt flights (place ∷ places) [] = ⊥
StandAt flights (place ∷ places) (g ∷ gs) = (slice_get flights place ≡ Some g)
    × StandAt flights places gs

-- the places of the flights that may follow one, in order, where they are known
abbrev pub Knows : Settings → Flights → Flight → Option (Vec ℕ Global) → Type 0
Knows s flights f None = Unit {0}
Knows s flights f (Some places) = StandAt flights.list places.items
    (filter (may_follow s flights.turns f) flights.list)

-- what may follow a flight: the places, where they are known, and a minute that none of them arrives
-- before
pub record IsNext (s : Settings) (flights : Flights) (f : Flight) (next : Next) : Type 0 where
  pub knows : Knows s flights f next.places
  pub least : pos 0 ≤ℤ next.soonest
  pub most : next.soonest ≤ℤ pos 100_000_000
  pub soonest : (latest : ℤ) → pos 0 ≤ℤ latest → latest <ℤ next.soonest
      → Each (λ g. latest <ℤ g.arr) (filter (may_follow s flights.turns f) flights.list)

-- what may follow each flight
abbrev pub AreNext : Settings → Flights → List Flight → List Next → Type 0
AreNext s flights [] [] = Unit {0}
AreNext s flights [] (next ∷ others) = ⊥
AreNext s flights (f ∷ fs) [] = ⊥
AreNext s flights (f ∷ fs) (next ∷ others) = IsNext s flights f next × AreNext s flights fs others

-- what the search works with: checked settings, the flights of a timetable, their departures, and
-- what is known of the flights that may follow each
pub record IsPlan (s : Settings) (flights : Flights) (slots : List Slot)
    (next : List Next) : Type 0 where
  pub checked : IsChecked s
  pub are_flights : AreFlights flights
  pub few : length flights.list ≤ 5_000
  pub index : IsIndex flights.list slots
  pub are_next : AreNext s flights flights.list next

-- the duties that begin with these legs and then the flight at a place, and none where there is no
-- flight
abbrev pub below_place : ℕ → Settings → Flights → TimedLeg → List TimedLeg → ℕ → List Duty
below_place room s flights first others place = flat_map (below room s flights first others)
    (take 1 (drop place flights.list))

-- places of flights that may follow the last leg; below all others that may, nothing stands
pub record LeadOn (s : Settings) (flights : Flights) (first : TimedLeg)
    (others : List TimedLeg) (places : List ℕ) : Type 0 where
  pub follow : Each (λ place. (g : Flight) × (slice_get flights.list place ≡ Some g)
      × (may_follow s flights.turns (last_of first others).flight g ≡ true)) places
  pub all : (room : ℕ) → flat_map (below_place room s flights first others) places
      ≡ flat_map (below room s flights first others)
      (filter (may_follow s flights.turns (last_of first others).flight) flights.list)
