use Rattle.std.proofs.Common.{None, map, take}
use Rattle.std.specs.Arc.{arc_value}
use Rattle.crew_solve.specs.Machinery.Floors.{AreKnown}
use Rattle.crew_solve.proofs.floors.known.Given as goal

abbrev pub invariant-loop-base : goal.invariant-loop-base
invariant-loop-base l = AreKnown None (map arc_value (take l.base-index l.fronts)) l.known.items
