use Rattle.std.proofs.Common.{◌<◌, ℕ, [], get_or}
use Rattle.crew_answers.proofs.LongListed.{value_cmp}
use Rattle.crew_label.specs.Pools.{AreRising}
use Rattle.crew_fronts.proofs.passed_fronts.list.Given as goal

-- the fronts so far
abbrev pub invariant-loop-rank : goal.invariant-loop-rank
invariant-loop-rank l = (k : ℕ) → k < l.rank → AreRising value_cmp (get_or l.fronts.fronts k [])
