use Rattle.crew_duty.proofs.pieces.+count_in+fn-count_in-join_mut+arg3.Given as goal

abbrev pub decreases-join_mut+arg3 : goal.decreases-join_mut+arg3
decreases-join_mut+arg3 g l = l.others

abbrev pub decreases-count_in : goal.decreases-count_in
decreases-count_in g l = l.pieces
