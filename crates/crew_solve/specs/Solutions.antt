-- The fronts of all bases and duties, and the best pairing.
use Rattle.std.specs.Prelude.{◌≡◌, ℕ, cond, List, [], ◌∷◌, Option, Some, None, IsPermutation}
use Rattle.std.specs.Ordering.{eq_by_cmp}
use Rattle.crew_flights.specs.Codes.{code_cmp}
use Rattle.crew_flights.specs.Timetable.{Timetable}
use Rattle.crew_net.specs.Nets.{IsNetOf, Net}
use Rattle.crew_pairing.specs.Duties.{AreDuties}
use Rattle.crew_pairing.specs.Legs.{Leg}
use Rattle.crew_pairing.specs.declared.duty.Duty.{Duty}
use Rattle.crew_pairing.specs.declared.vector.PairingVector.{PairingVector}
use Rattle.crew_resource.specs.Members.{Member}
use Rattle.crew_rules.specs.declared.settings.Settings.{Settings}
use Rattle.crew_sweep.specs.Sweeps.{BaseSweep, front_at}
use Rattle.crew_vector.specs.Fronts.{RiseByVector}
use Rattle.crew_vector.specs.declared.priced.PricedPairing.{PricedPairing}

-- the network, one sweep for each base of its, and the best pairing
pub record Solution : Type 0 where
  pub net : Net
  pub sweeps : List BaseSweep
  pub best : Option PricedPairing

-- its network is that of the legal duties of a timetable
abbrev pub HasNetOf : Settings → Timetable → Solution → Type 0
HasNetOf s t solution = (ds : List Duty) × AreDuties s t ds × IsNetOf s t ds solution.net

abbrev pub front_among : List BaseSweep → List ℕ → Duty → List (PairingVector × List (List Leg))
front_among [] base d = []
front_among (b ∷ bs) base d = cond (eq_by_cmp code_cmp b.base base) (front_at b d)
    (front_among bs base d)

-- the front of a base and a duty
abbrev pub front_of : Solution → List ℕ → Duty → List (PairingVector × List (List Leg))
front_of s base d = front_among s.sweeps base d

-- the front of a base and the duty of a key, in order of vector; none where it isn't a node
abbrev pub IsFrontOf : Solution → List ℕ → List Leg
    → Option (List (PairingVector × List (List Leg))) → Type 0
IsFrontOf s base key None = (d : Duty) → Member s.net.bases base → Member s.net.duties d
    → d.key ≡ key → ⊥
IsFrontOf s base key (Some entries) = (d : Duty) × Member s.net.bases base × Member s.net.duties d
    × (d.key ≡ key) × IsPermutation (front_of s base d) entries × RiseByVector entries

-- two sweeps show the same entries at a duty
abbrev pub ShowSame : BaseSweep → BaseSweep → Duty → Type 0
ShowSame a b d = (e : PairingVector × List (List Leg))
    → (Member (front_at a d) e → Member (front_at b d) e)
    × (Member (front_at b d) e → Member (front_at a d) e)
