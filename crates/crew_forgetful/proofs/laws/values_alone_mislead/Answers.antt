use Rattle.crew_forgetful.proofs.Misleading.{dropped_by_value, kept_by_walk, all_leave_the_lesser_walk, values_leave_the_greater_walk}
use Rattle.crew_forgetful.proofs.laws.values_alone_mislead.Goals as goal

pub returns-clause-dropped : goal.returns-clause-dropped
returns-clause-dropped c = dropped_by_value

pub returns-clause-kept : goal.returns-clause-kept
returns-clause-kept c = kept_by_walk

pub returns-clause-lesser : goal.returns-clause-lesser
returns-clause-lesser c = all_leave_the_lesser_walk

pub returns-clause-greater : goal.returns-clause-greater
returns-clause-greater c = values_leave_the_greater_walk
