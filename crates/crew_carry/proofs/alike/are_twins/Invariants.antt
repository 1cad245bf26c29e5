use Rattle.std.proofs.Common.{map, take}
use Rattle.crew_carry.specs.Labels.{AreCarriedLabels}
use Rattle.crew_carry.proofs.alike.are_twins.Given as goal

abbrev pub invariant-loop-place : goal.invariant-loop-place
invariant-loop-place g l = AreCarriedLabels l.ranks l.from l.to (take l.place (map (λ b. b.now) l.olds)) (take l.place (map (λ b. b.now) l.news))
