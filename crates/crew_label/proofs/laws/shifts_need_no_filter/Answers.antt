use Rattle.crew_label.proofs.Shifts.{boarded_front, waited_pool}
use Rattle.crew_label.proofs.laws.shifts_need_no_filter.Goals as goal

pub returns-clause-boarded : goal.returns-clause-boarded
returns-clause-boarded g c = λ r item leads trail duty rank candidates pool s plain into i.
    let f = g.met.R.Forgets.forgets r in
    boarded_front g.R.Value.Ord.cmp g.R.Resource.below g.R.Forgets.same_sums g.met.R.Resource.order f.same_itself f.same_between plain (λ u. g.R.Staged.boards r u item) duty rank
    (λ a b y z. (g.met.R.Staged.shifting r s).board_reflects a b y z item) leads trail candidates pool into i

pub returns-clause-waited : goal.returns-clause-waited
returns-clause-waited g c = λ r arrival departure trail candidates pool s plain i.
    let f = g.met.R.Forgets.forgets r in
    waited_pool g.R.Value.Ord.cmp g.R.Resource.below g.R.Forgets.same_sums g.met.R.Resource.order f.same_itself f.same_between plain (λ u. g.R.Staged.waited r u arrival departure)
    (λ a b. (g.met.R.Staged.shifting r s).wait_reflects a b arrival departure) trail candidates pool i
