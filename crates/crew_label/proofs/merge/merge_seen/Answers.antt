use Rattle.std.proofs.Common.{not, List, inl, inr, sym, ◌∙◌, ap, subst, ⊎_elim}
use Rattle.std.specs.List.{list_any}
use Rattle.crew_resource.specs.Members.{Member}
use Rattle.crew_resource.proofs.Members.{Member-filter_out}
use Rattle.crew_resource.proofs.Values.{below_order}
use Rattle.crew_label.specs.Machinery.Rules.{same_by}
use Rattle.crew_label.specs.Machinery.Seeing.{labels_of}
use Rattle.crew_label.specs.Pools.{AreRising, stands_label}
use Rattle.crew_label.specs.declared.label.Label.{Label}
use Rattle.crew_label.specs.declared.seen.Seen.{Seen}
use Rattle.crew_label.proofs.MergedPools.{free_of, free_out, kept_apart, merged_pool, rising_free}
use Rattle.crew_label.proofs.RuleLaws.{rule_laws}
use Rattle.crew_label.proofs.SeenLabels.{labels-free, told_free}
use Rattle.crew_label.proofs.merge.merge_seen.Goals as goal

pub free_of-requires-clause-told : goal.free_of-requires-clause-told
free_of-requires-clause-told g c t = let k = c.requires.told t in (k.0, k.2, k.1)

pub free_of-requires-2-clause-others : goal.free_of-requires-2-clause-others
free_of-requires-2-clause-others g c l m =
    let f = rule_laws g.R.Value.Ord.cmp g.R.Resource.below g.R.Forgets.same_sums g.met.R.Resource.order (g.met.R.Forgets.forgets c.args.resource.now).same_itself (g.met.R.Forgets.forgets c.args.resource.now).same_between c.args.rule in
    let same = same_by g.R.Resource.below g.R.Forgets.same_sums c.args.rule in
    let trail = g.T.Trails.trail c.args.trails.now in
    let free = free_out g.R.Resource.below same trail (below_order g.met.R.Resource.order) f.0 f.1 (labels_of c.args.one.now) (labels_of c.args.two.now) l
    (subst (λ (ls : List (Label g.row.R-Value.Denot)). Member ls l)
    (ap (λ (ss : List (Seen g.row.R-Value.Denot)). labels_of ss) (c.deref.ensures.value ∙ c.in_ok-free.ensures) ∙ labels-free (stands_label g.R.Resource.below same trail) c.args.two.now c.args.one.now) m) in
    c.requires.two_counts l free.0

pub free_of-requires-2-clause-told : goal.free_of-requires-2-clause-told
free_of-requires-2-clause-told g c t =
    let stand = stands_label g.R.Resource.below (same_by g.R.Resource.below g.R.Forgets.same_sums c.args.rule) (g.T.Trails.trail c.args.trails.now) in
    told_free (g.R.Marked.marks_of c.args.resource.now) c.args.one.now c.args.two.now c.deref.result.now (λ (m : Seen g.row.R-Value.Denot). not (list_any (λ (s : Seen g.row.R-Value.Denot). stand s.label.now m.label.now) c.args.one.now)) (c.deref.ensures.value ∙ c.in_ok-free.ensures) (c.requires.told t)

pub interleave-requires-clause-one : goal.interleave-requires-clause-one
interleave-requires-clause-one g c =
    let f = rule_laws g.R.Value.Ord.cmp g.R.Resource.below g.R.Forgets.same_sums g.met.R.Resource.order (g.met.R.Forgets.forgets c.args.resource.now).same_itself (g.met.R.Forgets.forgets c.args.resource.now).same_between c.args.rule in
    let same = same_by g.R.Resource.below g.R.Forgets.same_sums c.args.rule in
    let trail = g.T.Trails.trail c.args.trails.now in
    subst (AreRising g.R.Value.Ord.cmp) (sym (ap (λ (ss : List (Seen g.row.R-Value.Denot)). labels_of ss) (c.deref-2.ensures.value ∙ c.in_ok-kept.ensures) ∙ labels-free (stands_label g.R.Resource.below same trail) c.args.one.now c.deref.result.now))
    (rising_free g.R.Resource.below same trail (below_order g.met.R.Resource.order) f.0 f.1 g.R.Value.Ord.cmp (labels_of c.deref.result.now) (labels_of c.args.one.now) c.requires.one_rises)

pub interleave-requires-clause-two : goal.interleave-requires-clause-two
interleave-requires-clause-two g c =
    let f = rule_laws g.R.Value.Ord.cmp g.R.Resource.below g.R.Forgets.same_sums g.met.R.Resource.order (g.met.R.Forgets.forgets c.args.resource.now).same_itself (g.met.R.Forgets.forgets c.args.resource.now).same_between c.args.rule in
    let same = same_by g.R.Resource.below g.R.Forgets.same_sums c.args.rule in
    let trail = g.T.Trails.trail c.args.trails.now in
    subst (AreRising g.R.Value.Ord.cmp) (sym (ap (λ (ss : List (Seen g.row.R-Value.Denot)). labels_of ss) (c.deref-3.ensures.value ∙ c.in_ok-free.ensures) ∙ labels-free (stands_label g.R.Resource.below same trail) c.args.two.now c.args.one.now))
    (rising_free g.R.Resource.below same trail (below_order g.met.R.Resource.order) f.0 f.1 g.R.Value.Ord.cmp (labels_of c.args.one.now) (labels_of c.args.two.now) c.requires.two_rises)

pub interleave-requires-clause-distinct : goal.interleave-requires-clause-distinct
interleave-requires-clause-distinct g c l m p q e =
    let f = rule_laws g.R.Value.Ord.cmp g.R.Resource.below g.R.Forgets.same_sums g.met.R.Resource.order (g.met.R.Forgets.forgets c.args.resource.now).same_itself (g.met.R.Forgets.forgets c.args.resource.now).same_between c.args.rule in
    let order = below_order g.met.R.Resource.order in
    let same = same_by g.R.Resource.below g.R.Forgets.same_sums c.args.rule in
    let trail = g.T.Trails.trail c.args.trails.now in
    let labels = λ (ss : List (Seen g.row.R-Value.Denot)). labels_of ss in
    let freed = labels-free (stands_label g.R.Resource.below same trail) c.args.two.now c.args.one.now in
    kept_apart g.R.Resource.below same trail order f.0 f.1 (labels_of c.args.one.now) (labels_of c.args.two.now) l m
    (subst (λ (ls : List (Label g.row.R-Value.Denot)). Member ls l)
    (ap labels (c.deref-2.ensures.value ∙ c.in_ok-kept.ensures) ∙ (labels-free (stands_label g.R.Resource.below same trail) c.args.one.now c.deref.result.now
    ∙ ap (λ (o : List (Label g.row.R-Value.Denot)). free_of g.R.Resource.below same trail order f.0 f.1 o (labels_of c.args.one.now)) (ap labels (c.deref.ensures.value ∙ c.in_ok-free.ensures) ∙ freed))) p)
    (subst (λ (ls : List (Label g.row.R-Value.Denot)). Member ls m) (ap labels (c.deref-3.ensures.value ∙ c.in_ok-free.ensures) ∙ freed) q)
    e

pub returns-clause-pool : goal.returns-clause-pool
returns-clause-pool g c firsts seconds i j =
    let f = rule_laws g.R.Value.Ord.cmp g.R.Resource.below g.R.Forgets.same_sums g.met.R.Resource.order (g.met.R.Forgets.forgets c.args.resource.now).same_itself (g.met.R.Forgets.forgets c.args.resource.now).same_between c.args.rule in
    let order = below_order g.met.R.Resource.order in
    let same = same_by g.R.Resource.below g.R.Forgets.same_sums c.args.rule in
    let trail = g.T.Trails.trail c.args.trails.now in
    let labels = λ (ss : List (Seen g.row.R-Value.Denot)). labels_of ss in
    let merged = c.in_ok-whole.ensures.labels in
    merged_pool g.R.Resource.below same trail order f.0 f.1 (labels_of c.args.one.now) (labels_of c.args.two.now) (labels_of c.deref-3.result.now) (labels_of c.deref-2.result.now) (labels_of c.in_ok-whole.whole.items)
    (ap labels (c.deref-3.ensures.value ∙ c.in_ok-free.ensures) ∙ labels-free (stands_label g.R.Resource.below same trail) c.args.two.now c.args.one.now)
    (ap labels (c.deref-2.ensures.value ∙ c.in_ok-kept.ensures) ∙ (labels-free (stands_label g.R.Resource.below same trail) c.args.one.now c.deref.result.now
    ∙ ap (λ (o : List (Label g.row.R-Value.Denot)). free_of g.R.Resource.below same trail order f.0 f.1 o (labels_of c.args.one.now)) (ap labels (c.deref.ensures.value ∙ sym c.deref-3.ensures.value))))
    merged.from merged.with_one merged.with_two firsts seconds i j

pub returns-clause-from : goal.returns-clause-from
returns-clause-from g c s m =
    let stand = stands_label g.R.Resource.below (same_by g.R.Resource.below g.R.Forgets.same_sums c.args.rule) (g.T.Trails.trail c.args.trails.now) in
    let free = λ (others : List (Seen g.row.R-Value.Denot)) (n : Seen g.row.R-Value.Denot). not (list_any (λ (o : Seen g.row.R-Value.Denot). stand o.label.now n.label.now) others) in
    ⊎_elim
    (λ k. inl ((Member-filter_out (free c.deref.result.now) c.args.one.now s (subst (λ (ss : List (Seen g.row.R-Value.Denot)). Member ss s) (c.deref-2.ensures.value ∙ c.in_ok-kept.ensures) k)).0))
    (λ k. inr ((Member-filter_out (free c.args.one.now) c.args.two.now s (subst (λ (ss : List (Seen g.row.R-Value.Denot)). Member ss s) (c.deref-3.ensures.value ∙ c.in_ok-free.ensures) k)).0))
    (c.in_ok-whole.ensures.from s m)
