-- Plans: the network of a timetable's legal duties, and its bases with their prices. The fronts of a
-- timetable are made one base at a time, each by a pass over the departures of the network.
use Rattle.std.specs.Prelude.{◌≡◌, ℕ, ℤ, List, Some, length, slice_get}
use Rattle.std.specs.FinMap as fin
use Rattle.crew_fronts.specs.crew_answers.Bests.{IsScratch}
use Rattle.crew_fronts.specs.crew_answers.Schedules.{IsDated}
use Rattle.crew_flights.specs.Timetable.{IsSound, Timetable}
use Rattle.crew_fronts.specs.Fronts.{BaseFronts, ShowsFronts}
use Rattle.crew_net.specs.Nets.{IsNetOf, Net}
use Rattle.crew_pairing.specs.Duties.{AreDuties}
use Rattle.crew_pairing.specs.declared.duty.Duty.{Duty}
use Rattle.crew_plan.specs.Solutions.{HasNetOf, Solution, front_of}
use Rattle.crew_rules.specs.Settings.{IsChecked}
use Rattle.crew_rules.specs.declared.settings.Settings.{Settings}

-- the network, and the bases with their prices by code
pub record Plan : Type 0 where
  pub net : Net
  pub prices : List (List ℕ × ℤ)

-- the network is that of the legal duties of a timetable, whose flights depart at instants, and the
-- bases are the timetable's
pub record IsPlanOf (s : Settings) (t : Timetable) (plan : Plan) : Type 0 where
  pub network : (ds : List Duty) × AreDuties s t ds × IsNetOf s t ds plan.net
  pub prices : plan.prices ≡ fin.entries t.bases
  pub dated : IsDated t

-- the fronts of a base at its price, which are those of each timetable that the network is of
pub record AreMade (net : Net) (base : List ℕ × ℤ) (b : BaseFronts) : Type 0 where
  pub own : (b.base, b.price) ≡ base
  pub same : b.net ≡ net
  pub fronts : (t : Timetable) → IsSound t → IsDated t → AreDuties net.settings t net.duties
      → ShowsFronts t b

-- the fronts of the base at a place
abbrev pub AreFrontsIn : Plan → ℕ → BaseFronts → Type 0
AreFrontsIn plan place b = (base : List ℕ × ℤ) × (slice_get plan.prices place ≡ Some base)
    × AreMade plan.net base b

-- those of each base, in order
pub record AreAllIn (plan : Plan) (fronts : List BaseFronts) : Type 0 where
  pub long : length fronts ≡ length plan.prices
  pub each : (place : ℕ) (b : BaseFronts) → slice_get fronts place ≡ Some b
      → AreFrontsIn plan place b

-- the fronts and the best pairing of each timetable that the plan is of
pub record IsSolutionIn (plan : Plan) (solution : Solution) : Type 0 where
  pub network : (s : Settings) (t : Timetable) → IsPlanOf s t plan → HasNetOf s t solution
  pub scratch : (s : Settings) (t : Timetable) → IsChecked s → IsSound t → IsPlanOf s t plan
      → IsScratch s t (front_of solution) solution.best
