use Rattle.std.proofs.Common.{length}
use Rattle.crew_sweep.specs.Machinery.Passing.{AreSealed}
use Rattle.crew_sweep.proofs.ahead.unmade.Given as goal

-- nothing more will reach the places so far
abbrev pub invariant-loop-it : goal.invariant-loop-it
invariant-loop-it l = AreSealed l.ground.net.now (length l.passed.pools) l.places.items
