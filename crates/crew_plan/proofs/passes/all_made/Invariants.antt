use Rattle.std.proofs.Common.{◌≡◌, Some, map}
use Rattle.crew_plan.proofs.passes.all_made.Given as goal

abbrev pub invariant-loop-made : goal.invariant-loop-made
invariant-loop-made l = map Some l.fronts.items ≡ l.yielded
