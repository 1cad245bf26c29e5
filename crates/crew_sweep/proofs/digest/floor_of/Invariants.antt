use Rattle.std.proofs.Common.{take}
use Rattle.crew_sweep.specs.Machinery.Digests.{IsFloor}
use Rattle.crew_sweep.proofs.digest.floor_of.Given as goal

-- none of the labels so far is less
abbrev pub invariant-loop-label : goal.invariant-loop-label
invariant-loop-label l = IsFloor l.floor (take l.label-index l.labels)
