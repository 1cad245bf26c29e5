-- What a plan keeps, and how its bases are swept.
use Rattle.std.specs.Prelude.{◌≡◌, ◌≤◌, ℕ, ℤ, true, List, Option, IfSome, length, map}
use Rattle.std.specs.Arc.{arc_value}
use Rattle.std.specs.FinMap as fin
use Rattle.crew_sweep.specs.crew_carry.Twins.{AreTwins}
use Rattle.crew_flights.specs.Timetable.{IsSound, Timetable}
use Rattle.crew_net.specs.Events.{AreEvents, arrival_cmp, departure_cmp}
use Rattle.crew_net.specs.Nets.{AreArrivalPlaces, IsNetOf, Net}
use Rattle.crew_pairing.specs.Duties.{AreDuties, RiseByKey}
use Rattle.crew_pairing.specs.Events.{arrival_of, departure_of}
use Rattle.crew_resource.specs.Members.{Each, Member}
use Rattle.crew_rules.specs.Settings.{IsChecked}
use Rattle.crew_solve.specs.declared.past.Past.{Past}
use Rattle.crew_sweep.specs.Sweeps.{BaseSweep, ShowsFronts}
use Rattle.crew_net.specs.Positions.{ArePositions}

-- two networks have the same bases, as many duties, and departures in the same order
pub record AreAlike (old new : Net) : Type 0 where
  pub bases : old.bases ≡ new.bases
  pub many : length old.duties ≡ length new.duties
  pub by_report : old.by_report ≡ new.by_report

-- a network's duties rise by key, and its events are those of its duties
pub record IsLaidOut (net : Net) : Type 0 where
  pub rise : RiseByKey net.duties
  pub departures : AreEvents departure_of departure_cmp net.duties net.departures
  pub arrivals : AreEvents arrival_of arrival_cmp net.duties net.arrivals

-- what is known of the network of a timetable's legal duties
pub record IsOver (t : Timetable) (net : Net) : Type 0 where
  pub checked : IsChecked net.settings
  pub sound : IsSound t
  pub built : IsNetOf net.settings t net.duties net
  pub duties : AreDuties net.settings t net.duties
  pub few : length net.duties ≤ 200_000

-- what an earlier network has for one: its fronts, and what the two have alike
pub record IsPast (net : Net) (p : Past) : Type 0 where
  pub earlier : Net
  pub nets : Each (λ b. b.net ≡ earlier) (map arc_value p.fronts.items)
  pub settings : earlier.settings ≡ net.settings
  pub positions : ArePositions earlier p.positions.items
  pub twins : AreTwins earlier net p.twins
  pub places : AreArrivalPlaces net p.places.items
  pub alike : p.is_same ≡ true → earlier ≡ net

-- earlier fronts of a base at a price
pub record IsFromPast (p : Past) (base : List ℕ) (price : ℤ) (b : BaseSweep) : Type 0 where
  pub among : Member (map arc_value p.fronts.items) b
  pub own : b.base ≡ base
  pub at : b.price ≡ price
  pub right : (t : Timetable) → IsSound t → AreDuties b.net.settings t b.net.duties
      → ShowsFronts t b

-- the network and the bases of some timetable, and what an earlier network has for it
pub record IsPlanned (net : Net) (bases : List (List ℕ × ℤ)) (positions : List ℕ) (past : Option Past)
    : Type 0 where
  pub timetable : Timetable
  pub over : IsOver timetable net
  pub priced : bases ≡ fin.entries timetable.bases
  pub by_rank : ArePositions net positions
  pub beside : IfSome past (IsPast net)
