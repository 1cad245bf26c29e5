use Rattle.crew_sweep.proofs.Fronts.{swept-fronts}
use Rattle.crew_sweep.proofs.laws.swept_pools_show_all_fronts.Goals as goal

pub returns : goal.returns
returns c = λ s t base price duties departures arrivals most pools checked sound exactly xs leaves arrives less local d legal.
    swept-fronts s t base price duties departures arrivals most pools checked sound exactly xs leaves arrives less local d legal
