use Rattle.std.proofs.Common.{◌≡◌, length}
use Rattle.crew_plan.proofs.passes.unmade.Given as goal

abbrev pub invariant-loop : goal.invariant-loop
invariant-loop l = length l.passed.items ≡ l.counter
