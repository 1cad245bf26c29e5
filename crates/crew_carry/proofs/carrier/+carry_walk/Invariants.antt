use Rattle.crew_carry.proofs.carrier.+carry_walk.Given as goal

abbrev pub decreases-carry_walk : goal.decreases-carry_walk
decreases-carry_walk l = l.walk
