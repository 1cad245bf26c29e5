use Rattle.crew_anchor.proofs.Sweeping.{windowed}
use Rattle.crew_anchor.proofs.laws.anchored_sweeps_by_window_give_all_fronts.Goals as goal

pub returns : goal.returns
returns c = λ s t base price duties checked sound exactly pools arrivals pool_local arrival_local. windowed s t base price duties checked sound exactly pools arrivals pool_local arrival_local
