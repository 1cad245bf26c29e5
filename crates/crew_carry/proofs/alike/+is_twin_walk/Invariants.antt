use Rattle.crew_carry.proofs.alike.+is_twin_walk.Given as goal

abbrev pub decreases-is_twin_walk : goal.decreases-is_twin_walk
decreases-is_twin_walk l = l.old
