use Rattle.crew_sweep.specs.Machinery.Mending.{IsChangedPart}
use Rattle.crew_sweep.proofs.mending.gathered.Given as goal

-- so far
abbrev pub invariant-loop-place : goal.invariant-loop-place
invariant-loop-place l = IsChangedPart l.twins l.changed l.walks l.held l.fn.window.from l.place l.growing
