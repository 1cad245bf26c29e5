use Rattle.crew_pool.proofs.MergeLemmas.{HasMet}
use Rattle.crew_pool.proofs.merge.merge_entries.Given as goal

-- the entries so far have met the pool
abbrev pub invariant-loop-label : goal.invariant-loop-label
invariant-loop-label g l = HasMet g.R.Resource.below l.walks l.fn.labels l.fn.entries l.yielded l.labels l.room
