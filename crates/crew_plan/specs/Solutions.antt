-- The fronts of all bases and duties, and the best pairing.
use Rattle.std.specs.Prelude.{◌≡◌, ℕ, cond, List, [], ◌∷◌, Option, Some, None}
use Rattle.std.specs.Ordering.{eq_by_cmp}
use Rattle.crew_fronts.specs.crew_answers.Fronts.{RiseByVector}
use Rattle.crew_flights.specs.Codes.{code_cmp}
use Rattle.crew_flights.specs.Timetable.{Timetable}
use Rattle.crew_fronts.specs.Fronts.{BaseFronts, Entries, front_at}
use Rattle.crew_net.specs.Nets.{IsNetOf, Net}
use Rattle.crew_pairing.specs.Duties.{AreDuties}
use Rattle.crew_pairing.specs.Legs.{Leg}
use Rattle.crew_pairing.specs.declared.duty.Duty.{Duty}
use Rattle.crew_resource.specs.Members.{Member}
use Rattle.crew_rules.specs.declared.settings.Settings.{Settings}
use Rattle.crew_fronts.specs.crew_solve.crew_vector.declared.priced.PricedPairing.{PricedPairing}

-- the network, the fronts of each base of its, and the best pairing
pub record Solution : Type 0 where
  pub net : Net
  pub bases : List BaseFronts
  pub best : Option PricedPairing

-- its network is that of the legal duties of a timetable
abbrev pub HasNetOf : Settings → Timetable → Solution → Type 0
HasNetOf s t solution = (ds : List Duty) × AreDuties s t ds × IsNetOf s t ds solution.net

abbrev pub front_among : List BaseFronts → List ℕ → Duty → Entries
front_among [] base d = []
front_among (b ∷ bs) base d = cond (eq_by_cmp code_cmp b.base base) (front_at b d)
    (front_among bs base d)

-- the front of a base and a duty
abbrev pub front_of : Solution → List ℕ → Duty → Entries
front_of s base d = front_among s.bases base d

-- the front of a base and the duty of a key, in order of vector; none where it isn't a node
abbrev pub IsFrontOf : Solution → List ℕ → List Leg → Option Entries → Type 0
IsFrontOf s base key None = (d : Duty) → Member s.net.bases base → Member s.net.duties d
    → d.key ≡ key → ⊥
IsFrontOf s base key (Some entries) = (d : Duty) × Member s.net.bases base × Member s.net.duties d
    × (d.key ≡ key) × (entries ≡ front_of s base d) × RiseByVector entries
