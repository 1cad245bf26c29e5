use Rattle.crew_sweep.specs.Machinery.Grounds.{ArePools, Stay}
use Rattle.crew_sweep.specs.Machinery.Lanes.{AllMadeAt}
use Rattle.crew_sweep.proofs.arrivals.Arrivals.put_all.Given as goal

-- those so far are put, and the others are left
abbrev pub invariant-loop-made : goal.invariant-loop-made
invariant-loop-made l = ArePools l.ground l.passed l.self × Stay l.fn.self l.self × AllMadeAt l.ground l.passed l.made-iterator.rest.items
