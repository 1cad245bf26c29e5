use Rattle.std.proofs.Common.{◌<◌, ℕ, get_or}
use Rattle.crew_sweep.proofs.ahead.is_sealed.Given as goal

-- so many of the duties that arrive have left
abbrev pub invariant-loop-rank : goal.invariant-loop-rank
invariant-loop-rank l = (k : ℕ) → k < l.rank-index → get_or l.ground.positions.now (get_or l.rank-items k 0) 0 < l.passed
