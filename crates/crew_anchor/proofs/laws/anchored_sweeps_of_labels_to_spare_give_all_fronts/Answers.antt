use Rattle.crew_anchor.proofs.Sweeping.{to-spare}
use Rattle.crew_anchor.proofs.laws.anchored_sweeps_of_labels_to_spare_give_all_fronts.Goals as goal

pub returns : goal.returns
returns c = λ s t base price duties checked sound exactly pools arrivals pool_local arrival_local. to-spare s t base price duties checked sound exactly pools arrivals pool_local arrival_local
