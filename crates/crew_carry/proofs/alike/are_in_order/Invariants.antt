use Rattle.std.proofs.Common.{take}
use Rattle.crew_carry.specs.Labels.{AreCarriedLabels}
use Rattle.crew_carry.proofs.alike.are_in_order.Given as goal

abbrev pub invariant-loop-place : goal.invariant-loop-place
invariant-loop-place g l = AreCarriedLabels l.ranks l.from l.to (take l.place l.olds) (take l.place l.news)
