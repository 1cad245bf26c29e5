use Rattle.crew_sweep.proofs.lanes.weight_of.Given as goal

-- nothing, since no clause says what the sum is
abbrev pub invariant-loop-lane : goal.invariant-loop-lane
invariant-loop-lane l = Unit {0}
