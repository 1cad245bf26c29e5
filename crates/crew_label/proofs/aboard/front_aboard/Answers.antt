use Rattle.std.proofs.Common.{List, ◌∙◌, true, false, map, sym, ap, subst}
use Rattle.crew_resource.specs.Labels.{IsLocal}
use Rattle.crew_resource.specs.Members.{Member}
use Rattle.crew_label.specs.Boarding.{boarded_from}
use Rattle.crew_label.specs.Machinery.Runs.{AreRuns, boards_where}
use Rattle.crew_label.specs.Pools.{ArePoolOf}
use Rattle.crew_label.specs.Walks.{ranks_at_most, shown}
use Rattle.crew_label.specs.declared.label.Label.{Label}
use Rattle.crew_label.proofs.Parted.{from_parts, front_of_parts, itself_of_parts, kept_runs, part_counted}
use Rattle.crew_label.proofs.aboard.front_aboard.Goals as goal

pub front_of_both-requires-clause-kept_counts : goal.front_of_both-requires-clause-kept_counts
front_of_both-requires-clause-kept_counts g c =
    let r = c.args.resource.now in
    let d = c.args.item.now in
    let lapses = λ (v : g.row.R-Value.Denot). g.R.Lapses.lapses r v d in
    let board = λ (v : g.row.R-Value.Denot). g.R.Staged.boards r v d in
    part_counted (g.T.Trails.trail c.args.trails.now) lapses board c.args.duty c.args.pool.now (g.R.Staged.count_of r) (g.T.Trails.leads c.args.trails.now) c.requires.into.0
    (λ v z e. (g.met.R.Staged.counting r c.requires.most.0 c.requires.most.1).one_more v z d e) c.requires.into.1 c.requires.counts false c.in_ok-kept.kept.items c.deref.result.now
    (c.in_ok-kept.ensures ∙ ap (boarded_from (boards_where false lapses board) c.args.duty 0) c.as_slice-labels.ensures.all) c.deref.ensures.value

pub front_of_both-requires-clause-cut_counts : goal.front_of_both-requires-clause-cut_counts
front_of_both-requires-clause-cut_counts g c =
    let r = c.args.resource.now in
    let d = c.args.item.now in
    let lapses = λ (v : g.row.R-Value.Denot). g.R.Lapses.lapses r v d in
    let board = λ (v : g.row.R-Value.Denot). g.R.Staged.boards r v d in
    part_counted (g.T.Trails.trail c.args.trails.now) lapses board c.args.duty c.args.pool.now (g.R.Staged.count_of r) (g.T.Trails.leads c.args.trails.now) c.requires.into.0
    (λ v z e. (g.met.R.Staged.counting r c.requires.most.0 c.requires.most.1).one_more v z d e) c.requires.into.1 c.requires.counts true c.in_ok-cut.cut.items c.deref-2.result.now
    (c.in_ok-cut.ensures ∙ ap (boarded_from (boards_where true lapses board) c.args.duty 0) c.as_slice-labels.ensures.all) c.deref-2.ensures.value

pub front_of_both-requires-clause-runs : goal.front_of_both-requires-clause-runs
front_of_both-requires-clause-runs g c =
    let r = c.args.resource.now in
    let d = c.args.item.now in
    let lapses = λ (v : g.row.R-Value.Denot). g.R.Lapses.lapses r v d in
    let board = λ (v : g.row.R-Value.Denot). g.R.Staged.boards r v d in
    subst (AreRuns g.R.Value.Ord.cmp g.R.Resource.below g.R.Forgets.same_sums)
    (sym (c.deref.ensures.value ∙ (c.in_ok-kept.ensures ∙ ap (boarded_from (boards_where false lapses board) c.args.duty 0) c.as_slice-labels.ensures.all)))
    (kept_runs g.R.Value.Ord.cmp g.R.Resource.below g.R.Forgets.same_sums (g.R.Staged.waited r) (g.R.Staged.boards r) (g.R.Lapses.lapses r) (g.met.R.Lapses.together r) (g.met.R.Lapses.aboard r)
    (g.met.R.Forgets.forgets r).same_itself (g.T.Trails.trail c.args.trails.now) d c.args.duty c.requires.clean.0 c.args.pool.now c.as_slice-labels.ensures.rises c.requires.clean.1)

pub returns-clause-front : goal.returns-clause-front
returns-clause-front g c =
    let r = c.args.resource.now in
    let d = c.args.item.now in
    let f = g.met.R.Forgets.forgets r in
    let lapses = λ (v : g.row.R-Value.Denot). g.R.Lapses.lapses r v d in
    let board = λ (v : g.row.R-Value.Denot). g.R.Staged.boards r v d in
    let trail = g.T.Trails.trail c.args.trails.now in
    subst (λ (ls : List (Label g.row.R-Value.Denot)). IsLocal g.R.Resource.below ranks_at_most
    (λ v w. Member (map (shown trail) (boarded_from board c.args.duty 0 c.args.pool.now)) (v, w)) (map (shown trail) ls)) (sym c.from_rising.ensures)
    (front_of_parts trail lapses board c.args.duty c.args.pool.now c.in_ok-kept.kept.items c.in_ok-cut.cut.items c.deref.result.now c.deref-2.result.now c.in_ok-front.front.items
    (c.in_ok-kept.ensures ∙ ap (boarded_from (boards_where false lapses board) c.args.duty 0) c.as_slice-labels.ensures.all)
    (c.in_ok-cut.ensures ∙ ap (boarded_from (boards_where true lapses board) c.args.duty 0) c.as_slice-labels.ensures.all)
    c.deref.ensures.value c.deref-2.ensures.value g.R.Value.Ord.cmp g.R.Resource.below g.R.Forgets.same_sums g.met.R.Resource.order f.same_itself f.same_between c.in_ok-front.ensures.pool)

pub returns-clause-itself : goal.returns-clause-itself
returns-clause-itself g c =
    let r = c.args.resource.now in
    let d = c.args.item.now in
    let f = g.met.R.Forgets.forgets r in
    let lapses = λ (v : g.row.R-Value.Denot). g.R.Lapses.lapses r v d in
    let board = λ (v : g.row.R-Value.Denot). g.R.Staged.boards r v d in
    let trail = g.T.Trails.trail c.args.trails.now in
    subst (λ (ls : List (Label g.row.R-Value.Denot)). ArePoolOf g.R.Resource.below g.R.Forgets.same_sums trail (map (shown trail) ls) ls) (sym c.from_rising.ensures)
    (itself_of_parts trail lapses board c.args.duty c.args.pool.now c.in_ok-kept.kept.items c.in_ok-cut.cut.items c.deref.result.now c.deref-2.result.now c.in_ok-front.front.items
    (c.in_ok-kept.ensures ∙ ap (boarded_from (boards_where false lapses board) c.args.duty 0) c.as_slice-labels.ensures.all)
    (c.in_ok-cut.ensures ∙ ap (boarded_from (boards_where true lapses board) c.args.duty 0) c.as_slice-labels.ensures.all)
    c.deref.ensures.value c.deref-2.ensures.value g.R.Value.Ord.cmp g.R.Resource.below g.R.Forgets.same_sums g.met.R.Resource.order f.same_itself f.same_between c.in_ok-front.ensures.pool)

pub returns-clause-from : goal.returns-clause-from
returns-clause-from g c l m =
    let r = c.args.resource.now in
    let d = c.args.item.now in
    let lapses = λ (v : g.row.R-Value.Denot). g.R.Lapses.lapses r v d in
    let board = λ (v : g.row.R-Value.Denot). g.R.Staged.boards r v d in
    from_parts (g.T.Trails.trail c.args.trails.now) lapses board c.args.duty c.args.pool.now c.in_ok-kept.kept.items c.in_ok-cut.cut.items c.deref.result.now c.deref-2.result.now c.in_ok-front.front.items
    (c.in_ok-kept.ensures ∙ ap (boarded_from (boards_where false lapses board) c.args.duty 0) c.as_slice-labels.ensures.all)
    (c.in_ok-cut.ensures ∙ ap (boarded_from (boards_where true lapses board) c.args.duty 0) c.as_slice-labels.ensures.all)
    c.deref.ensures.value c.deref-2.ensures.value c.in_ok-front.ensures.from l (subst (λ (ls : List (Label g.row.R-Value.Denot)). Member ls l) c.from_rising.ensures m)
