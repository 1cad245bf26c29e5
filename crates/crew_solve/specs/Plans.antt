-- Plans: the network of a timetable's legal duties, and its bases with their prices. The fronts of a
-- timetable are made one base at a time, each by a sweep of the network.
use Rattle.std.specs.Prelude.{◌≡◌, ℕ, ℤ, List, Some, length, slice_get}
use Rattle.std.specs.FinMap as fin
use Rattle.crew_flights.specs.Timetable.{IsSound, Timetable}
use Rattle.crew_net.specs.Nets.{IsNetOf, Net}
use Rattle.crew_pairing.specs.Duties.{AreDuties}
use Rattle.crew_pairing.specs.declared.duty.Duty.{Duty}
use Rattle.crew_rules.specs.Settings.{IsChecked}
use Rattle.crew_rules.specs.declared.settings.Settings.{Settings}
use Rattle.crew_solve.specs.Solutions.{HasNetOf, Solution, front_of}
use Rattle.crew_sweep.specs.Sweeps.{BaseSweep, IsSwept}
use Rattle.crew_vector.specs.Bests.{IsScratch}

-- the network, and the bases with their prices by code
pub record Plan : Type 0 where
  pub net : Net
  pub prices : List (List ℕ × ℤ)

-- the network is that of the legal duties of a timetable, and the bases are the timetable's
pub record IsPlanOf (s : Settings) (t : Timetable) (plan : Plan) : Type 0 where
  pub network : (ds : List Duty) × AreDuties s t ds × IsNetOf s t ds plan.net
  pub prices : plan.prices ≡ fin.entries t.bases

-- the sweep of the base at a place
abbrev pub IsSweepIn : Plan → ℕ → BaseSweep → Type 0
IsSweepIn plan place b = (base : List ℕ × ℤ) × (slice_get plan.prices place ≡ Some base)
    × IsSwept plan.net base b

-- one sweep for each base, in order
pub record AreSweepsIn (plan : Plan) (sweeps : List BaseSweep) : Type 0 where
  pub long : length sweeps ≡ length plan.prices
  pub each : (place : ℕ) (b : BaseSweep) → slice_get sweeps place ≡ Some b
      → IsSweepIn plan place b

-- the fronts and the best pairing of each timetable that the plan is of
pub record IsSolutionIn (plan : Plan) (solution : Solution) : Type 0 where
  pub network : (s : Settings) (t : Timetable) → IsPlanOf s t plan → HasNetOf s t solution
  pub scratch : (s : Settings) (t : Timetable) → IsChecked s → IsSound t → IsPlanOf s t plan
      → IsScratch s t (front_of solution) solution.best
