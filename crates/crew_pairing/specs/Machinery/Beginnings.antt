-- The flights of a timetable as a list, and beginnings of duties over them.
use Rattle.std.specs.Prelude.{◌≡◌, List, [], ◌∷◌}
use Rattle.std.specs.declared.cmp.Ordering.TheVariants.{Less}
use Rattle.std.specs.Ordering.{nat_cmp}
use Rattle.crew_flights.specs.Timetable.{IsFlight}
use Rattle.crew_flights.specs.declared.flight.Flight.{Flight}
use Rattle.crew_resource.specs.Members.{Each, Member}
use Rattle.crew_rules.specs.declared.settings.Settings.{Settings}
use Rattle.crew_pairing.specs.Flights.{Flights}
use Rattle.crew_pairing.specs.Legality.{AllConnect}
use Rattle.crew_pairing.specs.declared.leg.TimedLeg.{TimedLeg}

-- flights in order of their numbers
abbrev pub Rises : List Flight → Type 0
Rises [] = Unit {0}
Rises (f ∷ fs) = Each (λ g. nat_cmp f.id g.id ≡ Less) fs × Rises fs

-- the flights of a timetable: in order, each with a block time and a price in its limits
pub record AreFlights (flights : Flights) : Type 0 where
  pub each : Each (λ f. IsFlight f.id f) flights.list
  pub rising : Rises flights.list

-- a beginning of a duty over these flights
pub record IsBeginning (s : Settings) (flights : Flights) (first : TimedLeg)
    (others : List TimedLeg) : Type 0 where
  pub known : Each (λ l. Member flights.list l.flight) (first ∷ others)
  pub connected : AllConnect s flights.turns first others
