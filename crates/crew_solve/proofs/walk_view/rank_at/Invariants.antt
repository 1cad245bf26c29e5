use Rattle.std.proofs.Common.{◌≡◌, ◌<◌, length}
use Rattle.std.specs.Prelude.{slice_get}
use Rattle.crew_pool.specs.Arena.{walk_at}
use Rattle.crew_solve.proofs.walk_view.rank_at.Given as goal

-- so many duties are left, and what stands at the place in the walk stands there in what is left
abbrev pub invariant-loop-before : goal.invariant-loop-before
invariant-loop-before l =
    (l.at < length l.walks) × (l.left ≡ length (walk_at l.walks l.at))
    × (slice_get (walk_at l.walks l.walk) l.place ≡ slice_get (walk_at l.walks l.at) l.place)

abbrev pub decreases-loop-before : goal.decreases-loop-before
decreases-loop-before l = l.at
