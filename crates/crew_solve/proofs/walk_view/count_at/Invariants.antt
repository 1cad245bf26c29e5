use Rattle.std.proofs.Common.{◌≡◌, ◌+◌, ◌<◌, ◌≤◌, length}
use Rattle.crew_pool.specs.Arena.{walk_at}
use Rattle.crew_solve.proofs.walk_view.count_at.Given as goal

-- the walk's duties are those counted and those of the walk that is left
abbrev pub invariant-loop-before : goal.invariant-loop-before
invariant-loop-before l = (l.at < length l.walks) × (l.count + l.at ≤ l.place) × (length (walk_at l.walks l.place) ≡ length (walk_at l.walks l.at) + l.count)

abbrev pub decreases-loop-before : goal.decreases-loop-before
decreases-loop-before l = l.at
