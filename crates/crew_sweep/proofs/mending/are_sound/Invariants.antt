use Rattle.std.proofs.Common.{take}
use Rattle.crew_sweep.specs.Machinery.Mending.{AreSound}
use Rattle.crew_sweep.proofs.mending.are_sound.Given as goal

-- those so far are
abbrev pub invariant-loop-label : goal.invariant-loop-label
invariant-loop-label l = AreSound l.twins l.changed l.places l.walks l.fn.added (take l.label-index l.labels)
