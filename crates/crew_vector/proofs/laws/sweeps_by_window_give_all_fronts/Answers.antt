use Rattle.crew_vector.proofs.Pooled.{swept-in-window}
use Rattle.crew_vector.proofs.laws.sweeps_by_window_give_all_fronts.Goals as goal

pub returns : goal.returns
returns c = swept-in-window
