use Rattle.std.proofs.Common.{◌≡◌, ◌<◌, ◌++◌, length}
use Rattle.std.specs.Prelude.{reverse}
use Rattle.crew_pool.specs.Arena.{walk_at}
use Rattle.crew_pool.specs.Machinery.ArenaLinks.{all_walks}
use Rattle.crew_pool.specs.LabelWalks.{walk_of_label}
use Rattle.crew_pool.proofs.arena.ranks_of.Given as goal

-- the walk is that at the place, and the duties so far, the last first
abbrev pub invariant-loop-place : goal.invariant-loop-place
invariant-loop-place l =
    let ws = all_walks l.links in
    (l.place < length ws) × (walk_of_label ws l.fn.label ≡ walk_at ws l.place ++ reverse l.ranks.items)

abbrev pub decreases-loop-place : goal.decreases-loop-place
decreases-loop-place l = l.place
