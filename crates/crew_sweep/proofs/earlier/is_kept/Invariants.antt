use Rattle.crew_sweep.proofs.Renewed.{AreKeptTo}
use Rattle.crew_sweep.proofs.earlier.is_kept.Given as goal

-- so many are kept
abbrev pub invariant-loop-offset : goal.invariant-loop-offset
invariant-loop-offset l = AreKeptTo l.twins l.changed l.alike l.now l.old l.offset
