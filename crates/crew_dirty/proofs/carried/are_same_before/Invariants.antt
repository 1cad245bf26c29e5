use Rattle.std.proofs.Common.{◌≡◌, ◌≤◌, ◌<◌, ℕ, Some}
use Rattle.std.specs.Prelude.{slice_get}
use Rattle.crew_dirty.specs.declared.node_state.NodeState.TheVariants.{Same}
use Rattle.crew_net.specs.Events.{arrives_at}
use Rattle.crew_net.specs.Ranks.{ranks_where}
use Rattle.crew_pairing.specs.declared.events.Arrival.{Arrival}
use Rattle.crew_resource.specs.Members.{Member}
use Rattle.crew_dirty.proofs.carried.are_same_before.Given as goal

-- what arrives so far does
abbrev pub invariant-loop-arrival : goal.invariant-loop-arrival
invariant-loop-arrival g l =
    (k rank : ℕ) (x : Arrival) → l.fn.window.from ≤ k → k < l.arrival → slice_get l.net.arrivals k ≡ Some x
    → Member (ranks_where (arrives_at x) l.net.duties) rank → g.S.NodeStates.state_at l.states l.base rank ≡ Same
