use Rattle.crew_numbers.proofs.Takes.{AreLeft}
use Rattle.crew_numbers.proofs.taking.leave_all.Given as goal

-- the keys from one on are done
abbrev pub invariant-loop-number : goal.invariant-loop-number
invariant-loop-number l = AreLeft l.fn.keys l.ranks l.number l.keys
