use Rattle.crew_numbers.proofs.Takes.{AreRanked}
use Rattle.crew_numbers.proofs.taking.ranks_of.Given as goal

-- the duties so far tell their ranks
abbrev pub invariant-loop-rank : goal.invariant-loop-rank
invariant-loop-rank l = AreRanked l.numbers l.end l.rank l.ranks.items
