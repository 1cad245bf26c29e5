use Rattle.std.proofs.Common.{List, ℕ, map, sym, subst, ap, ◌∙◌}
use Rattle.crew_label.specs.Boarding.{waited_label}
use Rattle.crew_label.specs.Pools.{AreCounted, ArePoolOf}
use Rattle.crew_label.specs.Walks.{shown}
use Rattle.crew_label.specs.declared.label.Label.{Label}
use Rattle.crew_label.proofs.Boarded.{waited_counted}
use Rattle.crew_label.proofs.Waiting.{waited-shown}
use Rattle.crew_label.proofs.pool.Pool.rested.Goals as goal

pub gather-requires-clause-counts : goal.gather-requires-clause-counts
gather-requires-clause-counts g c =
    let r = c.args.resource.now in
    let leads = g.T.Trails.leads c.args.trails.now in
    let trail = g.T.Trails.trail c.args.trails.now in
    let rested = g.R.Lapses.rested_of r in
    let labels = c.deref.ensures.value ∙ (c.in_ok-labels.ensures ∙ ap (map (waited_label rested)) c.as_slice.ensures.all) in
    subst (AreCounted (g.R.Staged.count_of r) leads trail) (sym labels)
    (waited_counted rested (g.R.Staged.count_of r) (g.met.R.Lapses.resting r).rested_counts leads trail c.args.self.now c.requires.counts)

pub returns-clause-pool : goal.returns-clause-pool
returns-clause-pool g c =
    let r = c.args.resource.now in
    let trail = g.T.Trails.trail c.args.trails.now in
    let rested = g.R.Lapses.rested_of r in
    let Pools = λ (es : List (g.row.R-Value.Denot × List ℕ)) (ls : List (Label g.row.R-Value.Denot)). ArePoolOf g.R.Resource.below g.R.Forgets.same_sums trail es ls in
    let labels = c.deref.ensures.value ∙ (c.in_ok-labels.ensures ∙ ap (map (waited_label rested)) c.as_slice.ensures.all) in
    let shows = ap (map (shown trail)) labels ∙ waited-shown trail rested c.args.self.now in
    subst (λ (ls : List (Label g.row.R-Value.Denot)). Pools (map (λ e. (rested e.0, e.1)) (map (shown trail) c.args.self.now)) ls) (sym c.from_rising.ensures)
    (subst (λ (es : List (g.row.R-Value.Denot × List ℕ)). Pools es c.in_ok-pool.pool.items) shows c.in_ok-pool.ensures.pool)
