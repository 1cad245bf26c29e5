use Rattle.std.proofs.Common.{take}
use Rattle.crew_pool.proofs.MergeLemmas.{HasMet}
use Rattle.crew_pool.proofs.merge.merge_labels.Given as goal

-- the labels so far have met the pool
abbrev pub invariant-loop-label : goal.invariant-loop-label
invariant-loop-label g l = HasMet g.R.Resource.below l.walks l.fn.labels l.list (take l.label-index l.list) l.labels l.room
