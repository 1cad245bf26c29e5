use Rattle.crew_sweep.specs.Machinery.Lanes.{AllMadeAt, AreDone, AreGrouped}
use Rattle.crew_sweep.specs.declared.ground.Ground.{Ground}
use Rattle.crew_sweep.specs.declared.passing.Passing.{Passing}
use Rattle.crew_sweep.proofs.ahead.apart.Given as goal

-- what is apart so far, and what is left
abbrev pub invariant-loop-done : goal.invariant-loop-done
invariant-loop-done l = (g : Ground) (p : Passing) → AreDone g p l.fn.all.items
    → AreGrouped g.net.now p.passed.walks p.arrivals.made.items p.arrivals.pools.items l.groups.items × AllMadeAt g p.passed l.made.items × AreDone g p l.done-iterator.rest.items
