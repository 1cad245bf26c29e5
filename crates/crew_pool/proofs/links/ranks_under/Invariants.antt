use Rattle.std.proofs.Common.{◌≡◌, ◌<◌, ℕ, length}
use Rattle.crew_pool.specs.Machinery.Links.{rank_now}
use Rattle.crew_pool.specs.Renumbered.{rank_under}
use Rattle.crew_pool.proofs.links.ranks_under.Given as goal

abbrev pub invariant-loop-rank : goal.invariant-loop-rank
invariant-loop-rank l =
    (length l.news.items ≡ l.rank)
    × ((k : ℕ) → k < l.rank → rank_now l.news.items k ≡ rank_under l.twins (rank_now l.ranks k))
