-- Lines: the waiting nodes all before which have a flag, where each base counts those that haven't.
use Rattle.std.specs.Prelude.{◌≡◌, ◌↔◌, ℕ, ◌+◌, ◌*◌, ◌<◌, ◌≤◌, ◌⊎◌, ◌&&◌, ◌||◌, Bool, true, false, List, Some, Vec, get_or, length, slice_get}
use Rattle.std.specs.Global.{Global}
use Rattle.crew_dirty.specs.Carried.{Carried}
use Rattle.crew_net.specs.Nets.{Net}
use Rattle.crew_pairing.specs.Events.{arrival_of, departure_of}
use Rattle.crew_pairing.specs.declared.duty.Duty.{Duty}
use Rattle.crew_ready.specs.Counts as Ready
use Rattle.crew_ready.specs.Counts.{AreCounts}
use Rattle.crew_resource.specs.Members.{Member}
use Rattle.crew_round.specs.Marks.{IsJustBefore, StandsAt, node_count}
use Rattle.crew_round.specs.declared.line.Line.{Line}
use Rattle.crew_round.specs.declared.mark.Mark.{Mark}
use Rattle.crew_round.specs.declared.mark.Mark.TheVariants.{Waiting}
use Rattle.crew_round.specs.declared.spot.Spot.{Spot}

-- the node of a base's place and a rank may come into a line: any may, or those that aren't touched
abbrev pub may_come : Bool → Carried → ℕ → ℕ → Bool
may_come any c base rank = any || (get_or c.bases base false && get_or c.same rank false)

-- all just before a place have their flags
abbrev pub AllBefore : Net → (ℕ → Bool) → ℕ → Type 0
AllBefore net flag place = (p : ℕ) → IsJustBefore net p place → flag p ≡ true

-- the flags of one base's nodes, by rank
pub record IsRow (net : Net) (flag : ℕ → Bool) (base : ℕ) (row : List Bool) : Type 0 where
  pub long : length row ≡ length net.duties
  pub tied : (rank : ℕ) → rank < length net.duties
      → get_or row rank false ≡ flag (base * length net.duties + rank)

-- what one base counts
pub record HasCounts (net : Net) (flag : ℕ → Bool) (base : ℕ) (counts : Ready.Counts) : Type 0 where
  pub row : List Bool
  pub is_row : IsRow net flag base row
  pub are : AreCounts net row counts

-- what each base counts
abbrev pub AreCounted : Net → (ℕ → Bool) → Line → Type 0
AreCounted net flag line = (base : ℕ) (counts : Ready.Counts)
    → slice_get line.counts.items base ≡ Some counts → HasCounts net flag base counts

-- what the first bases count
pub record AreCountsUpTo (net : Net) (flags : List Bool) (n : ℕ) (all : Vec Ready.Counts Global)
    : Type 0 where
  pub long : length all.items ≡ n
  pub right : (base : ℕ) (counts : Ready.Counts) → slice_get all.items base ≡ Some counts
      → HasCounts net (λ place. get_or flags place false) base counts

-- a line with its counts and its set, over flags
pub record IsLine (net : Net) (carried : Carried) (marks : List Mark) (flag : ℕ → Bool) (line : Line)
    : Type 0 where
  pub long : length line.counts.items ≡ length net.bases
  pub counted : AreCounted net flag line
  pub long_set : length line.set ≡ node_count net
  pub chosen : (place base rank : ℕ) (d : Duty) → StandsAt net place base rank d
      → (get_or line.set place false ≡ true) ↔ ((slice_get marks place ≡ Some Waiting)
      × (may_come line.any carried base rank ≡ true) × AllBefore net flag place)

-- a line over a network: what is known of its lengths
pub record IsShaped (net : Net) (line : Line) : Type 0 where
  pub long : length line.counts.items ≡ length net.bases
  pub undone : (base : ℕ) (counts : Ready.Counts) → slice_get line.counts.items base ≡ Some counts
      → length counts.undone ≡ length net.arrivals
  pub blocked : (base : ℕ) (counts : Ready.Counts) → slice_get line.counts.items base ≡ Some counts
      → length counts.blocked ≡ length net.departures
  pub long_set : length line.set ≡ node_count net

-- the flag of a place, and no other, is set where it is told
pub record IsFlagged (flag next : ℕ → Bool) (place : ℕ) (told : Bool) : Type 0 where
  pub was : flag place ≡ false
  pub here : next place ≡ told
  pub elsewhere : (k : ℕ) → (k ≡ place → ⊥) → next k ≡ flag k

-- where a node stands, with the place of its duty's arrival
pub record IsSpot (net : Net) (spot : Spot) (d : Duty) : Type 0 where
  pub stands : StandsAt net spot.place spot.base spot.rank d
  pub arrives : slice_get net.arrivals spot.arrival ≡ Some (arrival_of d)

-- the node of a rank of a base waits and may come
pub record IsOpen (marks : List Mark) (carried : Carried) (any : Bool) (base offset rank : ℕ)
    : Type 0 where
  pub waits : slice_get marks (offset + rank) ≡ Some Waiting
  pub may : may_come any carried base rank ≡ true

-- .. and stands at a place, and its rank is one of some
pub record IsOpenAmong (ranks : List ℕ) (marks : List Mark) (carried : Carried) (any : Bool)
    (base offset place : ℕ) : Type 0 where
  pub rank : ℕ
  pub among : Member ranks rank
  pub is : place ≡ offset + rank
  pub is_open : IsOpen marks carried any base offset rank

-- a waiting node of a base that may come, all before which have their flags
pub record IsDue (net : Net) (marks : List Mark) (carried : Carried) (any : Bool)
    (flag : ℕ → Bool) (base place : ℕ) : Type 0 where
  pub rank : ℕ
  pub duty : Duty
  pub stands : StandsAt net place base rank duty
  pub is_open : IsOpen marks carried any base (base * length net.duties) rank
  pub before : AllBefore net flag place

-- .. whose departure stands in a part of the departures
pub record IsDueIn (net : Net) (marks : List Mark) (carried : Carried) (any : Bool)
    (flag : ℕ → Bool) (base start stop place : ℕ) : Type 0 where
  pub due : IsDue net marks carried any flag base place
  pub departure : ℕ
  pub low : start ≤ departure
  pub high : departure < stop
  pub leaves : slice_get net.departures departure ≡ Some (departure_of due.duty)

-- .. or whose base does, of the bases
pub record IsDueOf (net : Net) (marks : List Mark) (carried : Carried) (any : Bool)
    (flag : ℕ → Bool) (stop place : ℕ) : Type 0 where
  pub base : ℕ
  pub high : base < stop
  pub due : IsDue net marks carried any flag base place

-- a set grew: it has all of the one kind, and nothing new but of the other
pub record Grows (Every Only : ℕ → Type 0) (old new : List Bool) : Type 0 where
  pub all : (k : ℕ) → Every k → get_or new k false ≡ true
  pub only : (k : ℕ) → get_or new k false ≡ true → (get_or old k false ≡ true) ⊎ Only k

-- a line has the counts that it had, and what its set had
pub record Stays (old new : Line) : Type 0 where
  pub counts : new.counts.items ≡ old.counts.items
  pub any : new.any ≡ old.any
  pub long : length new.set ≡ length old.set
  pub kept : (k : ℕ) → get_or old.set k false ≡ true → get_or new.set k false ≡ true
