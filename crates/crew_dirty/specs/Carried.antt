-- What is carried over from one network to the next, by places of bases and ranks of duties.
use Rattle.std.specs.Prelude.{◌≡◌, ◌↔◌, ◌≤◌, ◌<◌, ℕ, Bool, true, false, List, Some, get_or, length, slice_get}
use Rattle.std.specs.FinMap as map
use Rattle.crew_flights.specs.Timetable.{Timetable}
use Rattle.crew_net.specs.Layers.{IsPath}
use Rattle.crew_net.specs.Nets.{Net, nodes_of}
use Rattle.crew_net.specs.declared.node.Node.{Node}
use Rattle.crew_pairing.specs.Events.{departure_of}
use Rattle.crew_pairing.specs.declared.duty.Duty.{Duty}
use Rattle.crew_dirty.specs.Dirty.{IsKept, IsNetOver, IsSameBase, IsSameDuty}

-- by place, whether the base was there at the same price; by rank, whether the duty is the same,
-- whether each duty is the same from which a list of arcs leads to it, and the place of its
-- departure
pub record Carried : Type 0 where
  pub bases : List Bool
  pub same : List Bool
  pub unreached : List Bool
  pub departures : List ℕ

-- each duty is the same from which a list of arcs leads to one, the empty list too
abbrev pub AreSameUpTo : Net → Net → Duty → Type 0
AreSameUpTo old new d = (first : Duty) (others : List Duty) → IsPath new first others d
    → IsSameDuty old new first

-- the flag of each duty, by rank, tells whether it has the property
abbrev pub AreFlags : (Duty → Type 0) → List Duty → List Bool → Type 0
AreFlags P duties flags = (rank : ℕ) (d : Duty) → slice_get duties rank ≡ Some d
    → (get_or flags rank false ≡ true) ↔ P d

-- that is carried over from the network of one timetable to that of another
pub record IsCarriedOver (t u : Timetable) (old new : Net) (c : Carried) : Type 0 where
  pub is_net : IsNetOver u new
  pub base_flags : (place : ℕ) (base : List ℕ) → slice_get new.bases place ≡ Some base
      → (get_or c.bases place false ≡ true)
      ↔ IsSameBase old (map.get t.bases base) (map.get u.bases base) base
  pub same_flags : AreFlags (IsSameDuty old new) new.duties c.same
  pub unreached_flags : AreFlags (AreSameUpTo old new) new.duties c.unreached
  pub long : length c.departures ≡ length new.duties
  pub leaves : (rank : ℕ) (d : Duty) → slice_get new.duties rank ≡ Some d
      → slice_get new.departures (get_or c.departures rank 0) ≡ Some (departure_of d)

-- the nodes from a place on are kept
abbrev pub AreKeptFrom : Timetable → Timetable → Net → Net → ℕ → Type 0
AreKeptFrom t u old new from = (place : ℕ) (node : Node) → from ≤ place
    → slice_get (nodes_of new.bases new.duties) place ≡ Some node → IsKept t u old new node

-- the first node from a place on that isn't kept stands there
pub record IsNextDirty (t u : Timetable) (old new : Net) (from place : ℕ) : Type 0 where
  pub not_before : from ≤ place
  pub node : Node
  pub at : slice_get (nodes_of new.bases new.duties) place ≡ Some node
  pub dirty : IsKept t u old new node → ⊥
  pub kept : (k : ℕ) (n : Node) → from ≤ k → k < place
      → slice_get (nodes_of new.bases new.duties) k ≡ Some n → IsKept t u old new n
