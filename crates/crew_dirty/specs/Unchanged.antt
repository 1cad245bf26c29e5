-- Whether a node's work is what it was: the node isn't touched, and the fronts of the nodes just
-- before it are those that they were.
use Rattle.std.specs.Prelude.{◌≡◌, ℕ, true, List, Some, slice_get}
use Rattle.std.specs.FinMap as map
use Rattle.crew_flights.specs.Timetable.{Timetable}
use Rattle.crew_net.specs.Nets.{IsNodeOf, Net}
use Rattle.crew_net.specs.declared.node.Node.{Node}
use Rattle.crew_pairing.specs.Pairings.{may_stand_after}
use Rattle.crew_pairing.specs.declared.duty.Duty.{Duty}
use Rattle.crew_dirty.specs.Dirty.{IsUntouched}
use Rattle.crew_dirty.specs.declared.node_state.NodeState.{NodeState}
use Rattle.crew_dirty.specs.declared.node_state.NodeState.TheVariants.{Same}

-- by base and rank, what a round has at a node
pub record IsUnchanged (t u : Timetable) (old new : Net) (state : List ℕ → ℕ → NodeState)
    (node : Node) : Type 0 where
  pub duty : Duty
  pub is_node : IsNodeOf new node duty
  pub untouched : IsUntouched old new (map.get t.bases node.base) (map.get u.bases node.base)
      node.base duty
  pub before : (rank : ℕ) (e : Duty) → slice_get new.duties rank ≡ Some e
      → may_stand_after new.settings e duty ≡ true → state node.base rank ≡ Same
