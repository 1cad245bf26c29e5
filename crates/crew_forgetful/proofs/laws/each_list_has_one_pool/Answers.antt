use Rattle.crew_resource.specs.Members.{Member}
use Rattle.crew_resource.proofs.Values.{below_order}
use Rattle.crew_forgetful.proofs.Covered.{pool_unique}
use Rattle.crew_forgetful.proofs.Offers.{pool_of}
use Rattle.crew_forgetful.proofs.laws.each_list_has_one_pool.Goals as goal

pub returns-clause-there : goal.returns-clause-there
returns-clause-there g c = λ r cmp at_most labels walks.
    let f = g.met.R.Forgets.forgets r in
    pool_of g.row.R-Value.Denot g.row.W.Denot g.R.Resource.below g.R.Forgets.same_sums at_most (below_order g.met.R.Resource.order) (below_order walks) f.same_itself f.same_between labels

pub returns-clause-one : goal.returns-clause-one
returns-clause-one g c = λ r cmp at_most labels es fs walks.
    let f = g.met.R.Forgets.forgets r in
    pool_unique g.row.R-Value.Denot g.row.W.Denot g.R.Resource.below g.R.Forgets.same_sums at_most (below_order g.met.R.Resource.order) (below_order walks) f.same_itself f.same_between (λ v w. Member labels (v, w)) es fs
