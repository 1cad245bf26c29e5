use Rattle.crew_vector.proofs.Pruned.{least-enough, lies-over, stands-through}
use Rattle.crew_vector.proofs.laws.lesser_duties_stand_for_greater_ones.Goals as goal

pub returns-clause-view : goal.returns-clause-view
returns-clause-view c = lies-over

pub returns-clause-enough : goal.returns-clause-enough
returns-clause-enough c = least-enough

pub returns-clause-through : goal.returns-clause-through
returns-clause-through c = stands-through
