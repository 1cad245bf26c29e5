-- All legal duties of a timetable, by key.
use Rattle.std.specs.Prelude.{◌≡◌, ◌<◌, ◌≤◌, List, [], ◌∷◌, length, map as list_map}
use Rattle.std.specs.declared.cmp.Ordering.TheVariants.{Less}
use Rattle.std.specs.FinMap as map
use Rattle.crew_flights.specs.Places.{placed}
use Rattle.crew_flights.specs.Timetable.{Timetable}
use Rattle.crew_rules.specs.declared.settings.Settings.{Settings}
use Rattle.crew_pairing.specs.Flights.{Flights}
use Rattle.crew_pairing.specs.Keys.{key_cmp}
use Rattle.crew_pairing.specs.Legality.{IsLegal, duty_of}
use Rattle.crew_resource.specs.Members.{Each, Member}
use Rattle.crew_pairing.specs.declared.leg.TimedLeg.{TimedLeg}
use Rattle.crew_pairing.specs.declared.duty.Duty.{Duty}

-- the flights of a timetable, by number, and its turns. A flight that another follows arrives at a
-- place of its own, and the other leaves there: so in each pairing that one is the next leg after it
abbrev pub flights_of : Timetable → Flights
flights_of t = record { list = list_map (placed t) (map.values t.flights); turns = t.turns }

-- each stands before all later ones by its key
abbrev pub RiseByKey : List Duty → Type 0
RiseByKey [] = Unit {0}
RiseByKey (d ∷ ds) = Each (λ e. key_cmp d.key e.key ≡ Less) ds × RiseByKey ds

-- exactly the legal duties over some flights, by key
pub record AreDutiesOver (s : Settings) (flights : Flights) (ds : List Duty) : Type 0 where
  pub sound : (d : Duty) → Member ds d → (first : TimedLeg) × (others : List TimedLeg)
      × IsLegal s flights first others × (d ≡ duty_of s first others)
  pub every : (first : TimedLeg) (others : List TimedLeg) → IsLegal s flights first others
      → Member ds (duty_of s first others)
  pub rising : RiseByKey ds

-- exactly the legal duties of a timetable, by key
abbrev pub AreDuties : Settings → Timetable → List Duty → Type 0
AreDuties s t ds = AreDutiesOver s (flights_of t) ds

-- a timetable has more than 200,000 legal duties
abbrev pub HasTooMany : Settings → Timetable → Type 0
HasTooMany s t = (ds : List Duty) × AreDuties s t ds × (200_000 < length ds)

-- a timetable has at most 200,000 legal duties
abbrev pub HasFew : Settings → Timetable → Type 0
HasFew s t = (ds : List Duty) × AreDuties s t ds × (length ds ≤ 200_000)
