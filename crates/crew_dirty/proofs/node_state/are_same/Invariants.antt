use Rattle.std.proofs.Common.{◌≡◌, ℕ, take}
use Rattle.crew_dirty.specs.declared.node_state.NodeState.TheVariants.{Same}
use Rattle.crew_resource.specs.Members.{Member}
use Rattle.crew_dirty.proofs.node_state.are_same.Given as goal

-- the ranks so far are
abbrev pub invariant-loop-rank : goal.invariant-loop-rank
invariant-loop-rank g l = (rank : ℕ) → Member (take l.rank-index l.ranks) rank → g.S.NodeStates.state_at l.states l.base rank ≡ Same
