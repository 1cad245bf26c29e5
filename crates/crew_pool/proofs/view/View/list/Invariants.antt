use Rattle.std.proofs.Common.{◌≡◌}
use Rattle.crew_pool.proofs.view.View.list.Given as goal

abbrev pub invariant-loop-entry : goal.invariant-loop-entry
invariant-loop-entry g l = l.list.items ≡ l.yielded
