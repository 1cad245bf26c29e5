use Rattle.std.proofs.Common.{List, sym, subst}
use Rattle.std.proofs.lemmas.Result.{IfOk-weaker}
use Rattle.crew_label.specs.Pools.{ArePoolsOf}
use Rattle.crew_label.specs.declared.label.Label.{Label}
use Rattle.crew_labelling.specs.Candidates.{Waits}
use Rattle.crew_labelling.specs.Held.{trail_of}
use Rattle.crew_labelling.specs.Labellings.{labelling_of}
use Rattle.crew_pass.specs.Machinery.Terms.{labels_table, terms}
use Rattle.crew_pass.proofs.Collected.{all-gathered}
use Rattle.crew_pass.proofs.waits.waited_pool.Goals as goal

pub returns-clause-pool : goal.returns-clause-pool
returns-clause-pool g c =
    let w = (terms g.R.Value.Ord.cmp g.R.Lapses g.R.Staged g.R.Forgets g.R.Resource c.args.ground.now) in
    let trail = trail_of (labels_table w) in
    IfOk-weaker c.joined.result _ _
    (λ pool joins. all-gathered w trail (Waits w trail (labelling_of w).arrivals c.args.departure.now) c.in_ok-pools.pools.items pool c.in_ok-pools.ensures.collected
    (λ candidates are. joins candidates (subst (λ (lss : List (List (Label g.row.R-Value.Denot))). ArePoolsOf w.below w.same trail candidates lss) (sym c.deref.ensures.value) are)))
    c.joined.ensures.pool
