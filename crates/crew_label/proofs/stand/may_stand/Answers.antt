use Rattle.std.proofs.Common.{length, sym, ◌∙◌}
use Rattle.crew_label.specs.Walks.{walk_of}
use Rattle.crew_label.proofs.RuleLaws.{as_long, rule_tells}
use Rattle.crew_label.proofs.stand.may_stand.Goals as goal

pub walk_at_most-requires-clause-long : goal.walk_at_most-requires-clause-long
walk_at_most-requires-clause-long g c =
    let f = g.met.R.Forgets.forgets c.args.resource.now in
    let a = c.args.a.now in
    let b = c.args.b.now in
    let trail = g.T.Trails.trail c.args.trails.now in
    as_long (length (walk_of trail a.before)) (length (walk_of trail b.before))
    (sym c.requires.first.counts
    ∙ (rule_tells g.R.Value.Ord.cmp g.R.Resource.below g.R.Forgets.same_sums g.met.R.Resource.order f.same_itself f.same_between (g.R.Staged.count_of c.args.resource.now) c.requires.tell c.args.rule a.value b.value (sym c.is_same.ensures ∙ c.if-not-is_same.false)
    ∙ c.requires.second.counts))
