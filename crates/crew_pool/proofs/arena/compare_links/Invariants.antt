use Rattle.std.proofs.Common.{◌≡◌, ℕ, ◌<◌, ◌++◌, List, length}
use Rattle.std.specs.Cmp.Lexicographic.{slice_cmp}
use Rattle.std.specs.Ordering.{nat_cmp}
use Rattle.crew_pool.specs.Arena.{walk_at}
use Rattle.crew_pool.specs.Machinery.ArenaLinks.{all_walks}
use Rattle.crew_pool.proofs.arena.compare_links.Given as goal

-- the walks are those at x and y with as many duties after them, whose order is known
abbrev pub invariant-loop-x : goal.invariant-loop-x
invariant-loop-x l =
    let ws = all_walks l.links in
    (l.x < length ws) × (l.y < length ws)
    × (length (walk_at ws l.x) ≡ length (walk_at ws l.y))
    × ((s : List ℕ) × (t : List ℕ)
    × (walk_at ws l.a ≡ walk_at ws l.x ++ s)
    × (walk_at ws l.b ≡ walk_at ws l.y ++ t)
    × (length s ≡ length t)
    × (l.order ≡ slice_cmp nat_cmp s t))

abbrev pub decreases-loop-x : goal.decreases-loop-x
decreases-loop-x l = l.x
