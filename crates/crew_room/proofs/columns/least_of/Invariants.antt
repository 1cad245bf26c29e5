use Rattle.std.proofs.Common.{◌<◌, ◌≤ℤ◌, ℕ, pos, slice_index_or}
use Rattle.crew_room.proofs.columns.least_of.Given as goal

-- the least of the numbers so far
abbrev pub invariant-loop-number : goal.invariant-loop-number
invariant-loop-number l = (k : ℕ) → k < l.number-index → l.least ≤ℤ slice_index_or l.column k (pos 0)
