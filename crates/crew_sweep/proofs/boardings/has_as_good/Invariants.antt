use Rattle.crew_sweep.proofs.boardings.has_as_good.Given as goal

-- nothing is known of those so far
abbrev pub invariant-loop-back : goal.invariant-loop-back
invariant-loop-back l = Unit {0}
