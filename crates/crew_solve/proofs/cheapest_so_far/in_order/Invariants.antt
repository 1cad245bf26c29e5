use Rattle.std.proofs.Common.{◌≡◌}
use Rattle.crew_solve.proofs.cheapest_so_far.in_order.Given as goal

abbrev pub invariant-loop-held : goal.invariant-loop-held
invariant-loop-held l = l.pairings.items ≡ l.yielded
