use Rattle.std.proofs.Common.{take}
use Rattle.crew_carry.specs.Carried.{AreTwinWalks}
use Rattle.crew_carry.proofs.twins.are_same.Given as goal

abbrev pub invariant-loop-place : goal.invariant-loop-place
invariant-loop-place l = AreTwinWalks l.same (take l.place l.olds) (take l.place l.news)
