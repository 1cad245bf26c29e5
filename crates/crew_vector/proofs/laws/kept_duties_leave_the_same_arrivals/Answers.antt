use Rattle.crew_vector.proofs.Pruned.{kept-arrivals, kept-spare}
use Rattle.crew_vector.proofs.laws.kept_duties_leave_the_same_arrivals.Goals as goal

pub returns-clause-arrival : goal.returns-clause-arrival
returns-clause-arrival c = kept-arrivals

pub returns-clause-spare : goal.returns-clause-spare
returns-clause-spare c = kept-spare
