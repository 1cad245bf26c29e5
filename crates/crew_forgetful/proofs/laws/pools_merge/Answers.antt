use Rattle.std.proofs.Common.{⊎_elim, ◌++◌}
use Rattle.crew_resource.specs.Members.{Member}
use Rattle.crew_resource.proofs.Members.{Member-append, Member-append_left, Member-append_right}
use Rattle.crew_resource.proofs.Values.{below_order}
use Rattle.crew_forgetful.proofs.Covered.{pool_merge, pool_of_all, pool_of_part}
use Rattle.crew_forgetful.proofs.Offers.{same_pool}
use Rattle.crew_forgetful.proofs.laws.pools_merge.Goals as goal

pub returns-clause-merged : goal.returns-clause-merged
returns-clause-merged g c = λ r cmp at_most cs ds one two merged walks i j m.
    let f = g.met.R.Forgets.forgets r in
    same_pool g.row.R-Value.Denot g.row.W.Denot g.R.Resource.below g.R.Forgets.same_sums at_most (below_order g.met.R.Resource.order) (below_order walks) f.same_itself f.same_between _ (λ v w. Member (cs ++ ds) (v, w)) merged
    (λ v w. ⊎_elim (λ h. Member-append_left cs ds (v, w) h) (λ h. Member-append_right cs ds (v, w) h))
    (λ v w h. Member-append cs ds (v, w) h)
    (pool_merge g.row.R-Value.Denot g.row.W.Denot g.R.Resource.below g.R.Forgets.same_sums at_most (below_order g.met.R.Resource.order) (below_order walks) f.same_itself f.same_between
    (λ v w. Member cs (v, w)) (λ v w. Member ds (v, w)) one two merged i j m)

pub returns-clause-covered : goal.returns-clause-covered
returns-clause-covered g c = λ r cmp at_most part labels entries walks covers.
    let f = g.met.R.Forgets.forgets r in (
      pool_of_all g.row.R-Value.Denot g.row.W.Denot g.R.Resource.below g.R.Forgets.same_sums at_most (below_order g.met.R.Resource.order) (below_order walks) f.same_itself f.same_between (λ v w. Member part (v, w)) (λ v w. Member labels (v, w)) covers entries,
      pool_of_part g.row.R-Value.Denot g.row.W.Denot g.R.Resource.below g.R.Forgets.same_sums at_most (below_order g.met.R.Resource.order) (below_order walks) f.same_itself f.same_between (λ v w. Member part (v, w)) (λ v w. Member labels (v, w)) covers entries,
    )
