use Rattle.std.proofs.Common.{take}
use Rattle.crew_audit.specs.Tallies.{IsLeast}
use Rattle.crew_audit.proofs.tally.Tally.of.Given as goal

abbrev pub invariant-loop-partial : goal.invariant-loop-partial
invariant-loop-partial l = IsLeast (take l.partial-index l.partials) l.cost
