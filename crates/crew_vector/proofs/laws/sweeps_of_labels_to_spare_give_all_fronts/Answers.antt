use Rattle.crew_vector.proofs.Spared.{spared}
use Rattle.crew_vector.proofs.laws.sweeps_of_labels_to_spare_give_all_fronts.Goals as goal

pub returns : goal.returns
returns c = λ s t base price duties checked sound exactly pools arrivals pool_local arrival_local. spared s t base price checked sound duties exactly pools arrivals pool_local arrival_local
