use Rattle.std.proofs.Common.{◌≡◌, None, replicate}
use Rattle.crew_numbers.proofs.taking.none_kept.Given as goal

abbrev pub invariant-loop : goal.invariant-loop
invariant-loop l = l.kept.items ≡ replicate l.counter None
