use Rattle.crew_plan.proofs.long_plan.fronts_at.Given as goal

abbrev pub invariant-loop-fronts : goal.invariant-loop-fronts
invariant-loop-fronts l = Unit {0}
