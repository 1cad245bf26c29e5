use Rattle.std.proofs.Common.{map, take}
use Rattle.std.specs.Arc.{arc_value}
use Rattle.crew_fronts.specs.Fronts.{BaseFronts}
use Rattle.crew_plan.specs.Machinery.Kept.{AreOfSweeps}
use Rattle.crew_fronts.specs.crew_sweep.Sweeps.{BaseSweep}
use Rattle.crew_plan.proofs.sweeps.wrapped.Given as goal

abbrev pub invariant-loop-sweep : goal.invariant-loop-sweep
invariant-loop-sweep l = AreOfSweeps (map (arc_value {X = BaseSweep}) (take l.sweep-index l.sweeps)) (map (arc_value {X = BaseFronts}) l.fronts.items)
