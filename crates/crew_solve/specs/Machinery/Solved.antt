-- The sweeps of all bases.
use Rattle.std.specs.Prelude.{◌≡◌, ℕ, List, IsPermutation, map}
use Rattle.std.specs.FinMap as fin
use Rattle.crew_anchor.specs.Sweeps.{shown_labels}
use Rattle.crew_flights.specs.Timetable.{IsSound, Timetable}
use Rattle.crew_net.specs.Nets.{Net}
use Rattle.crew_pairing.specs.Duties.{AreDuties}
use Rattle.crew_pairing.specs.Legs.{Leg}
use Rattle.crew_pairing.specs.declared.duty.Duty.{Duty}
use Rattle.crew_pairing.specs.declared.vector.PairingVector.{PairingVector}
use Rattle.crew_resource.specs.Members.{Each, Member}
use Rattle.crew_solve.specs.Machinery.Homes.{IsFit, boarding}
use Rattle.crew_solve.specs.Solutions.{front_among}
use Rattle.crew_sweep.specs.Sweeps.{BaseSweep, ShowsFronts, front_at}
use Rattle.crew_vector.specs.Fronts.{RiseByVector}

-- all that boards can be shown, and it shows the fronts of each timetable that its network is of
pub record IsShowing (b : BaseSweep) : Type 0 where
  pub fit : IsFit b
  pub right : (t : Timetable) → IsSound t → AreDuties b.net.settings t b.net.duties
      → ShowsFronts t b

-- one sweep of the network for each base, in order, each of which shows the fronts
pub record AreSweeps (t : Timetable) (net : Net) (sweeps : List BaseSweep) : Type 0 where
  pub bases : map (λ b. (b.base, b.price)) sweeps ≡ fin.entries t.bases
  pub nets : Each (λ b. b.net ≡ net) sweeps
  pub fronts : Each (ShowsFronts t) sweeps

-- the sweep of a base, which shows the base's fronts
pub record IsSweepOf (sweeps : List BaseSweep) (base : List ℕ) (b : BaseSweep) : Type 0 where
  pub among : Member sweeps b
  pub own : b.base ≡ base
  pub fronts : (d : Duty) → front_among sweeps base d ≡ front_at b d

-- what a departure's pool shows of a duty, in order of vector
pub record AreShownAt (b : BaseSweep) (index : ℕ) (d : Duty)
    (entries : List (PairingVector × List (List Leg))) : Type 0 where
  pub same : IsPermutation
      (shown_labels b.net.settings.trip_rig d.release (boarding b index d)) entries
  pub rises : RiseByVector entries

-- a sweep of the network for each of its bases
pub record IsSolved (net : Net) (sweeps : List BaseSweep) : Type 0 where
  pub bases : map (λ b. b.base) sweeps ≡ net.bases
  pub nets : Each (λ b. b.net ≡ net) sweeps
