use Rattle.std.proofs.Common.{◌≡◌, ◌+◌, ◌<◌, ℕ, false, get_or, true}
use Rattle.crew_board.proofs.before.are_same.Given as goal

-- the node of each rank so far has its flag
abbrev pub invariant-loop-rank : goal.invariant-loop-rank
invariant-loop-rank l = (k : ℕ) → k < l.rank-index → get_or l.marks.same (l.first + get_or l.ranks k 0) false ≡ true
