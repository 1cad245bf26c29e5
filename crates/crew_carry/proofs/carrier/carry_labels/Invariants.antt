use Rattle.std.proofs.Common.{take}
use Rattle.crew_step.specs.Walks.{HasGrown}
use Rattle.crew_carry.specs.Carried.{IsCarried}
use Rattle.crew_carry.specs.Labels.{AreCarriedLabels}
use Rattle.crew_carry.proofs.carrier.carry_labels.Given as goal

-- the labels so far are carried
abbrev pub invariant-loop-label : goal.invariant-loop-label
invariant-loop-label g l =
    IsCarried l.ranks l.from l.to l.places
    × HasGrown l.fn.to l.to
    × AreCarriedLabels l.ranks l.from l.to (take l.label-index l.labels) l.carried.items
