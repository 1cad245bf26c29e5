use Rattle.crew_sweep.proofs.ahead.label_count.Given as goal

-- nothing, since no clause says how many there are
abbrev pub invariant-loop-rank : goal.invariant-loop-rank
invariant-loop-rank l = Unit {0}
