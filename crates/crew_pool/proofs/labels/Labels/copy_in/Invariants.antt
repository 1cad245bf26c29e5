use Rattle.std.proofs.Common.{◌≡◌, ◌++◌, take}
use Rattle.crew_pool.proofs.labels.Labels.copy_in.Given as goal

-- the labels so far are added
abbrev pub invariant-loop-label : goal.invariant-loop-label
invariant-loop-label g l = l.self ≡ l.fn.self ++ take l.label-index l.list
