use Rattle.crew_sweep.specs.Machinery.Lanes.{AreMadeAt}
use Rattle.crew_sweep.proofs.ahead.make_claimed.Given as goal

abbrev pub invariant-loop : goal.invariant-loop
invariant-loop l = AreMadeAt l.ground l.passed l.made.items
