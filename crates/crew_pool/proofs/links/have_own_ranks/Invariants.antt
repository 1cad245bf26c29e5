use Rattle.std.proofs.Common.{◌≡◌, ◌<◌, ℕ}
use Rattle.crew_pool.specs.Renumbered.{rank_under}
use Rattle.crew_pool.proofs.links.have_own_ranks.Given as goal

abbrev pub invariant-loop-rank : goal.invariant-loop-rank
invariant-loop-rank l = (k : ℕ) → k < l.rank → rank_under l.twins k ≡ k
