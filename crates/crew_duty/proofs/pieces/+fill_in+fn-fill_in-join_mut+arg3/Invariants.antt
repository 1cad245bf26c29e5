use Rattle.crew_duty.proofs.pieces.+fill_in+fn-fill_in-join_mut+arg3.Given as goal

abbrev pub decreases-join_mut+arg3 : goal.decreases-join_mut+arg3
decreases-join_mut+arg3 g l = l.others

abbrev pub decreases-fill_in : goal.decreases-fill_in
decreases-fill_in g l = l.pieces
