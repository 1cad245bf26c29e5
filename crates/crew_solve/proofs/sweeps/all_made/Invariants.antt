use Rattle.std.proofs.Common.{◌≡◌, Ok, map}
use Rattle.crew_solve.proofs.sweeps.all_made.Given as goal

abbrev pub invariant-loop-of_base : goal.invariant-loop-of_base
invariant-loop-of_base l = map Ok l.fronts.items ≡ l.yielded
