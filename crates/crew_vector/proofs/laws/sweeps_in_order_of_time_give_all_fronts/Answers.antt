use Rattle.crew_vector.proofs.Pooled.{swept}
use Rattle.crew_vector.proofs.laws.sweeps_in_order_of_time_give_all_fronts.Goals as goal

pub returns : goal.returns
returns c = swept
