use Rattle.crew_vector.proofs.Fitting.{grade-counts}
use Rattle.crew_vector.proofs.laws.grade_is_the_number_of_duties.Goals as goal

pub returns : goal.returns
returns c = grade-counts
