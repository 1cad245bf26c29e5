use Rattle.std.proofs.Common.{rules}
use Rattle.crew_dirty.proofs.node_state.is_same.Goals as goal

pub returns-in-Same : goal.returns-in-Same
returns-in-Same c = search rules
