-- Twins: which duties and events of a network are which of an earlier one. Where there is none,
-- 4,294,967,295 stands.
use Rattle.std.specs.Prelude.{◌≡◌, ◌≢◌, ◌⊎◌, ℕ, Bool, true, List, Some, get_or, length, slice_get}
use Rattle.crew_net.specs.Events.{arrives_at}
use Rattle.crew_net.specs.Nets.{Net}
use Rattle.crew_net.specs.Positions.{in_order}
use Rattle.crew_net.specs.Ranks.{ranks_where}
use Rattle.crew_pairing.specs.declared.duty.Duty.{Duty}
use Rattle.crew_pairing.specs.declared.events.Arrival.{Arrival}

-- what stands at a place of one list stands at a place of another, where it has a twin
abbrev pub IsTwin : {X : Type 0} → List X → List X → ℕ → ℕ → Type 0
IsTwin {X} here there place other = (other ≡ 4_294_967_295)
    ⊎ ((x : X) × (slice_get here place ≡ Some x) × (slice_get there other ≡ Some x))

-- so for each place
abbrev pub AreTwinsIn : {X : Type 0} → List X → List X → List ℕ → Type 0
AreTwinsIn here there twins = (place other : ℕ) → slice_get twins place ≡ Some other
    → IsTwin here there place other

-- the duty of a rank stands at the rank that its number tells, where it has a twin
abbrev pub IsTwinByNumber : List Duty → List Duty → List ℕ → List ℕ → ℕ → ℕ → Type 0
IsTwinByNumber here there numbers ranks rank other = (other ≡ 4_294_967_295)
    ⊎ ((d : Duty) × (slice_get here rank ≡ Some d) × (slice_get there other ≡ Some d)
    × (slice_get ranks (get_or numbers rank 0) ≡ Some other))

-- so for each rank
abbrev pub AreTwinsByNumber : List Duty → List Duty → List ℕ → List ℕ → List ℕ → Type 0
AreTwinsByNumber here there numbers ranks twins = (rank other : ℕ)
    → slice_get twins rank ≡ Some other → IsTwinByNumber here there numbers ranks rank other

-- the duties of some ranks have these twins, one by one
pub record ArePaired (duties ranks others : List ℕ) : Type 0 where
  pub long : length ranks ≡ length others
  pub each : (k rank other : ℕ) → slice_get ranks k ≡ Some rank → slice_get others k ≡ Some other
      → slice_get duties rank ≡ Some other

-- the duties that arrive at a place are those that arrive at its twin, one by one
pub record AreFed (net earlier : Net) (duties : List ℕ) (place other : ℕ) : Type 0 where
  pub some : other ≢ 4_294_967_295
  pub paired : (x : Arrival) → slice_get net.arrivals place ≡ Some x → ArePaired duties
      (ranks_where (arrives_at x) net.duties) (ranks_where (arrives_at x) earlier.duties)

-- so where a place has a twin and is told to be fed
abbrev pub AreFedAt : Net → Net → List ℕ → List ℕ → List Bool → Type 0
AreFedAt net earlier duties arrivals fed = (place other : ℕ)
    → slice_get arrivals place ≡ Some other → slice_get fed place ≡ Some true
    → AreFed net earlier duties place other

-- the twins of duties by rank, of arrivals by place, and of departures by position in order of
-- report; and the arrivals at which the same duties arrive
pub record AreTwins (net earlier : Net) (numbers before ranks places : List ℕ) (same : List Bool)
    (positions : List ℕ) : Type 0 where
  pub duties_long : length ranks ≡ length net.duties
  pub arrivals_long : length places ≡ length net.arrivals
  pub fed_long : length same ≡ length net.arrivals
  pub departures_long : length positions ≡ length net.by_report
  -- the duty is the same, and has the same number
  pub duties : (rank other : ℕ) → slice_get ranks rank ≡ Some other → (other ≡ 4_294_967_295)
      ⊎ ((d : Duty) × (slice_get net.duties rank ≡ Some d)
      × (slice_get earlier.duties other ≡ Some d)
      × (get_or numbers rank 0 ≡ get_or before other 0))
  pub arrivals : AreTwinsIn net.arrivals earlier.arrivals places
  pub fed : AreFedAt net earlier ranks places same
  pub departures : AreTwinsIn (in_order net) (in_order earlier) positions
