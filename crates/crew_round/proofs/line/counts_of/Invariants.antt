use Rattle.crew_round.specs.Machinery.Lines.{AreCountsUpTo}
use Rattle.crew_round.proofs.line.counts_of.Given as goal

-- the bases so far have their counts
abbrev pub invariant-loop-base : goal.invariant-loop-base
invariant-loop-base l = AreCountsUpTo l.net l.flags l.base l.all
