use Rattle.crew_sweep.specs.Machinery.Grounds.{ArePools, Stay}
use Rattle.crew_sweep.specs.Machinery.Lanes.{AreMadeAt}
use Rattle.crew_sweep.proofs.arrivals.Arrivals.put_each.Given as goal

-- the pools so far are put, and the others are left
abbrev pub invariant-loop-it : goal.invariant-loop-it
invariant-loop-it l = ArePools l.ground l.passed l.self × Stay l.fn.self l.self × AreMadeAt l.ground l.passed l.it-iterator.rest.items
