use Rattle.std.proofs.Common.{◌≡◌, map, take}
use Rattle.std.specs.Arc.{arc_value}
use Rattle.crew_plan.proofs.long_plan.shared.Given as goal

abbrev pub invariant-loop-base : goal.invariant-loop-base
invariant-loop-base l = map arc_value l.all.items ≡ map arc_value (take l.base-index l.fronts)
