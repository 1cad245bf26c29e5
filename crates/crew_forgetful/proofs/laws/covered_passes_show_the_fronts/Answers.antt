use Rattle.crew_forgetful.proofs.Fronts.{covered_swept_fronts}
use Rattle.crew_forgetful.proofs.laws.covered_passes_show_the_fronts.Goals as goal

pub returns : goal.returns
returns g c = λ r most s pools arrivals fronts d counts same_count schedule pass.
    covered_swept_fronts g.row.R-Value.Denot g.row.P.Denot g.row.P-Arrival.Denot g.row.P-Departure.Denot g.row.K.Denot _ g.R.Resource.below (g.R.Resource.opens r) (g.R.Resource.extends r) (g.R.Resource.value_of r)
    g.P.Placed.arrives g.P.Placed.leaves (g.R.Staged.idle_of r) (g.R.Staged.waited r) (g.R.Staged.boards r) g.R.Forgets.same_sums (g.R.Staged.count_of r) most
    g.met.R.Resource.order (g.met.R.Resource.steps r) (g.met.R.Staged.staged r) (g.met.R.Forgets.forgets r) (g.met.R.Staged.counting r most counts) same_count
    s.key s.cmp schedule.total schedule.exact s.known s.may_start s.may_follow s.window s.at_base schedule.starts schedule.follows
    s.rank schedule.rises pools arrivals fronts pass.pooled pass.arrived pass.filtered d
