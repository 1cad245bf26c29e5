use Rattle.crew_vector.proofs.Pooled.{pooled}
use Rattle.crew_vector.proofs.laws.views_of_local_pools_are_fronts.Goals as goal

pub returns : goal.returns
returns c = pooled
