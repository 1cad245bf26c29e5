-- The fronts of a crew base at its price, one for each duty of a network.
use Rattle.std.specs.Prelude.{◌≡◌, ℕ, ℤ, suc, Bool, cond, not, List, [], ◌∷◌, get_or}
use Rattle.std.specs.Ordering.{eq_by_cmp}
use Rattle.crew_answers.specs.Fronts.{IsFrontAt, RiseByVector}
use Rattle.crew_answers.specs.LongVectors.{LongVector, is_long}
use Rattle.crew_answers.specs.ShortPairings.{with_no_pasts}
use Rattle.crew_flights.specs.Timetable.{Timetable}
use Rattle.crew_net.specs.Nets.{Net}
use Rattle.crew_pairing.specs.Duties.{flights_of}
use Rattle.crew_pairing.specs.Keys.{key_cmp}
use Rattle.crew_pairing.specs.Legs.{Leg}
use Rattle.crew_pairing.specs.Pairings.{IsDuty}
use Rattle.crew_pairing.specs.declared.duty.Duty.{Duty}
use Rattle.crew_pairing.specs.declared.vector.PairingVector.{PairingVector}
use Rattle.crew_resource.specs.Members.{Member}
use Rattle.crew_rules.specs.declared.settings.Settings.{Settings}
use Rattle.crew_solve.specs.crew_sweep.Sweeps as Sweeps
use Rattle.crew_solve.specs.crew_sweep.Sweeps.{BaseSweep}

-- the entries of a front: vectors, each with its walk
abbrev pub Entries : Type 0
Entries = List (LongVector × List (List Leg))

-- the network, the base and its price, and the front of each duty of the network, by rank
pub record BaseFronts : Type 0 where
  pub net : Net
  pub base : List ℕ
  pub price : ℤ
  pub fronts : List Entries

-- the place of the duty with a key, or how many there are where none has it
abbrev pub rank_of : List Duty → List Leg → ℕ
rank_of [] key = 0
rank_of (d ∷ ds) key = cond (eq_by_cmp key_cmp d.key key) 0 (suc (rank_of ds key))

-- the front of a duty
abbrev pub front_at : BaseFronts → Duty → Entries
front_at b d = get_or b.fronts (rank_of b.net.duties d.key) []

-- at each legal duty it is the duty's front, in order of vector
abbrev pub ShowsFronts : Timetable → BaseFronts → Type 0
ShowsFronts t b = (d : Duty) → IsDuty b.net.settings (flights_of t) d
    → IsFrontAt b.net.settings t b.base b.price d (front_at b d)
    × RiseByVector (front_at b d)

-- where no pairing has more than 138 hours the seven sums tell all that has to be known of a list of
-- duties
abbrev pub is_plain : Settings → Bool
is_plain s = not (is_long s)

-- the same entries, in whatever order
abbrev pub HaveSame : List (PairingVector × List (List Leg)) → List (PairingVector × List (List Leg))
    → Type 0
HaveSame es fs = (e : PairingVector × List (List Leg))
    → (Member es e → Member fs e) × (Member fs e → Member es e)

-- they are what a sweep shows, in order, each vector without a past
pub record IsOfSweep (sweep : BaseSweep) (b : BaseFronts) : Type 0 where
  pub net : b.net ≡ sweep.net
  pub base : b.base ≡ sweep.base
  pub price : b.price ≡ sweep.price
  pub fronts : (d : Duty) → Member sweep.net.duties d
      → (entries : List (PairingVector × List (List Leg)))
      × HaveSame (Sweeps.front_at sweep d) entries × (front_at b d ≡ with_no_pasts entries)
