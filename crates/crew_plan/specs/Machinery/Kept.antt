-- What a solution and a plan keep.
use Rattle.std.specs.Prelude.{◌≡◌, ℕ, ℤ, false, List, [], ◌∷◌, map, true}
use Rattle.std.specs.FinMap as fin
use Rattle.crew_fronts.specs.crew_answers.Schedules.{IsDated}
use Rattle.crew_flights.specs.Timetable.{IsSound, Timetable}
use Rattle.crew_fronts.specs.Fronts.{BaseFronts, IsOfSweep, ShowsFronts, front_at, is_plain}
use Rattle.crew_net.specs.Nets.{Net}
use Rattle.crew_pairing.specs.Duties.{AreDuties}
use Rattle.crew_pairing.specs.declared.duty.Duty.{Duty}
use Rattle.crew_resource.specs.Members.{Each, Member}
use Rattle.crew_plan.specs.Machinery.Homes.{IsPayable, alone}
use Rattle.crew_plan.specs.Solutions.{front_among}
use Rattle.crew_fronts.specs.crew_solve.Machinery.Planned.{IsOver}
use Rattle.crew_fronts.specs.crew_solve.Solutions as Plain
use Rattle.crew_fronts.specs.crew_sweep.Sweeps.{BaseSweep}

-- the fronts of each base of a network
pub record IsSolved (net : Net) (bases : List BaseFronts) : Type 0 where
  pub nets : Each (λ b. b.net ≡ net) bases
  pub all : map (λ b. b.base) bases ≡ net.bases

-- fronts are what sweeps show, one by one
abbrev pub AreOfSweeps : List BaseSweep → List BaseFronts → Type 0
AreOfSweeps [] [] = Unit {0}
AreOfSweeps [] (b ∷ bs) = ⊥
AreOfSweeps (sweep ∷ sweeps) [] = ⊥
AreOfSweeps (sweep ∷ sweeps) (b ∷ bs) = IsOfSweep sweep b × AreOfSweeps sweeps bs

-- fronts are those of a solution by sweeps, which settings without long pairings need no more than,
-- and the amounts of what they show fit
pub record IsBySweeps (solution : Plain.Solution) (bases : List BaseFronts) : Type 0 where
  pub short : is_plain solution.net.settings ≡ true
  pub each : AreOfSweeps solution.sweeps bases
  pub pay : Each (IsPayable solution.net.settings.trip_rig) bases

-- fronts are those of passes, and the amounts of what they show fit
pub record IsByPasses (net : Net) (bases : List BaseFronts) : Type 0 where
  pub long : is_plain net.settings ≡ false
  pub pay : Each (IsPayable net.settings.trip_rig) bases

-- the network and the bases of some timetable with long pairings
pub record IsLaid (net : Net) (prices : List (List ℕ × ℤ)) : Type 0 where
  pub timetable : Timetable
  pub over : IsOver timetable net
  pub dated : IsDated timetable
  pub priced : prices ≡ fin.entries timetable.bases
  pub long : is_plain net.settings ≡ false

-- the fronts of a base among those of all
pub record AreThoseOf (bases : List BaseFronts) (base : List ℕ) (b : BaseFronts) : Type 0 where
  pub among : Member bases b
  pub own : b.base ≡ base
  pub fronts : (d : Duty) → front_among bases base d ≡ front_at b d
  pub only : alone base bases ≡ b ∷ []

-- earlier fronts of a base at its price, right in each timetable that their network is of
pub record AreAt (past : List BaseFronts) (base : List ℕ × ℤ) (b : BaseFronts) : Type 0 where
  pub among : Member past b
  pub own : (b.base, b.price) ≡ base
  pub right : (t : Timetable) → IsSound t → IsDated t → AreDuties b.net.settings t b.net.duties
      → ShowsFronts t b
