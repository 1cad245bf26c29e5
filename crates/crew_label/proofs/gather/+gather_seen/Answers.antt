use Rattle.std.proofs.Common.{◌<◌, ℕ, List, length, map, sym, subst, ⊎_elim, arith}
use Rattle.std.proofs.lemmas.Result.{IfOk-weaker}
use Rattle.crew_resource.specs.Members.{Member}
use Rattle.crew_resource.proofs.Values.{below_order}
use Rattle.crew_label.specs.Machinery.Rules.{same_by}
use Rattle.crew_label.specs.Machinery.Seeing.{labels_of}
use Rattle.crew_label.specs.Pools.{AreCounted, ArePoolOf, AreRising}
use Rattle.crew_label.specs.Walks.{shown}
use Rattle.crew_label.specs.declared.seen.Seen.{Seen}
use Rattle.crew_label.proofs.Halves.{few_pool, few_rise, first_half, second_half, shorter_first, shorter_second, member_first, member_second}
use Rattle.crew_label.proofs.RuleLaws.{rule_laws}
use Rattle.crew_label.proofs.SeenLabels.{few_labels, labels_all, seen_halves}
use Rattle.crew_label.proofs.gather.+gather_seen.Goals as goal

pub gather_seen-requires : goal.gather_seen-requires
gather_seen-requires g t c κs within =
    let seen = c.args.seen.now in
    let few : length (first_half seen) < length seen = shorter_first seen c.if-seen-lt2.false in
    let counts : AreCounted (g.R.Staged.count_of c.args.resource.now) (g.T.Trails.leads c.args.trails.now) (g.T.Trails.trail c.args.trails.now) (labels_of (first_half seen)) =
    (λ l m. c.requires.counts l (labels_all (first_half seen) seen (member_first seen) l m)) in
    (omega arith, (within.0, (within.1.0, (within.1.1.0, (within.1.1.1.0, (within.1.1.1.1.0, (within.1.1.1.1.1, (c.requires.tell, (counts, λ k. let h = c.requires.told k in (h.0, λ s m. h.1 s (member_first seen s m)))))))))))

pub gather_seen-requires-2 : goal.gather_seen-requires-2
gather_seen-requires-2 g t c κs within =
    let seen = c.args.seen.now in
    let few : length (second_half seen) < length seen = shorter_second seen c.if-seen-lt2.false in
    let counts : AreCounted (g.R.Staged.count_of c.args.resource.now) (g.T.Trails.leads c.args.trails.now) (g.T.Trails.trail c.args.trails.now) (labels_of (second_half seen)) =
    (λ l m. c.requires.counts l (labels_all (second_half seen) seen (member_second seen) l m)) in
    (omega arith, (within.0, (within.1.0, (within.1.1.0, (within.1.1.1.0, (within.1.1.1.1.0, (within.1.1.1.1.1, (c.requires.tell, (counts, λ k. let h = c.requires.told k in (h.0, λ s m. h.1 s (member_second seen s m)))))))))))

pub returns-then-seen-lt2-clause-rises : goal.returns-then-seen-lt2-clause-rises
returns-then-seen-lt2-clause-rises g t c =
    IfOk-weaker c.seen_again.result _ _ (λ again e. subst (λ (ss : List (Seen g.row.R-Value.Denot)). AreRising g.R.Value.Ord.cmp (labels_of ss)) (sym e) (few_rise g.R.Value.Ord.cmp (labels_of c.args.seen.now) (few_labels c.args.seen.now c.if-seen-lt2.true))) c.seen_again.ensures

pub returns-then-seen-lt2-clause-pool : goal.returns-then-seen-lt2-clause-pool
returns-then-seen-lt2-clause-pool g t c =
    let f = rule_laws g.R.Value.Ord.cmp g.R.Resource.below g.R.Forgets.same_sums g.met.R.Resource.order (g.met.R.Forgets.forgets c.args.resource.now).same_itself (g.met.R.Forgets.forgets c.args.resource.now).same_between c.args.rule in
    let trail = g.T.Trails.trail c.args.trails.now in
    let same = same_by g.R.Resource.below g.R.Forgets.same_sums c.args.rule in
    let labels = labels_of c.args.seen.now in
    IfOk-weaker c.seen_again.result _ _ (λ again e. subst (λ (ss : List (Seen g.row.R-Value.Denot)). ArePoolOf g.R.Resource.below same trail (map (shown trail) labels) (labels_of ss)) (sym e)
    (few_pool g.R.Resource.below same trail (below_order g.met.R.Resource.order) f.0 f.1 labels (few_labels c.args.seen.now c.if-seen-lt2.true))) c.seen_again.ensures

pub merge_seen-requires-clause-one_counts : goal.merge_seen-requires-clause-one_counts
merge_seen-requires-clause-one_counts g t c l m =
    let seen = c.args.seen.now in
    c.requires.counts l (labels_all c.deref.result.now seen (λ s k. member_first seen s (c.in_ok-one.ensures.from s (subst (λ (ss : List (Seen g.row.R-Value.Denot)). Member ss s) c.deref.ensures.value k))) l m)

pub merge_seen-requires-clause-two_counts : goal.merge_seen-requires-clause-two_counts
merge_seen-requires-clause-two_counts g t c l m =
    let seen = c.args.seen.now in
    c.requires.counts l (labels_all c.deref-2.result.now seen (λ s k. member_second seen s (c.in_ok-two.ensures.from s (subst (λ (ss : List (Seen g.row.R-Value.Denot)). Member ss s) c.deref-2.ensures.value k))) l m)

pub merge_seen-requires-clause-told : goal.merge_seen-requires-clause-told
merge_seen-requires-clause-told g t c k =
    let seen = c.args.seen.now in
    let h = c.requires.told k in (
      h.0,
      λ s m. h.1 s (member_first seen s (c.in_ok-one.ensures.from s (subst (λ (ss : List (Seen g.row.R-Value.Denot)). Member ss s) c.deref.ensures.value m))),
      λ s m. h.1 s (member_second seen s (c.in_ok-two.ensures.from s (subst (λ (ss : List (Seen g.row.R-Value.Denot)). Member ss s) c.deref-2.ensures.value m))),
    )

pub returns-clause-pool : goal.returns-clause-pool
returns-clause-pool g t c =
    let trail = g.T.Trails.trail c.args.trails.now in
    let same = same_by g.R.Resource.below g.R.Forgets.same_sums c.args.rule in
    let seen = c.args.seen.now in
    let pools = λ (es : List (g.row.R-Value.Denot × List ℕ)) (ss : List (Seen g.row.R-Value.Denot)). ArePoolOf g.R.Resource.below same trail es (labels_of ss) in
    let first = map (shown trail) (labels_of (first_half seen)) in
    let second = map (shown trail) (labels_of (second_half seen)) in
    IfOk-weaker c.merge_seen.result _ _ (λ pool h.
    subst (λ (es : List (g.row.R-Value.Denot × List ℕ)). pools es pool.items) (seen_halves (shown trail) seen)
    (h first second (subst (pools first) (sym c.deref.ensures.value) c.in_ok-one.ensures.pool) (subst (pools second) (sym c.deref-2.ensures.value) c.in_ok-two.ensures.pool)))
    c.merge_seen.ensures.pool

pub returns-clause-from : goal.returns-clause-from
returns-clause-from g t c =
    let seen = c.args.seen.now in
    IfOk-weaker c.merge_seen.result _ _ (λ pool h s m. ⊎_elim
    (λ k. member_first seen s (c.in_ok-one.ensures.from s (subst (λ (ss : List (Seen g.row.R-Value.Denot)). Member ss s) c.deref.ensures.value k)))
    (λ k. member_second seen s (c.in_ok-two.ensures.from s (subst (λ (ss : List (Seen g.row.R-Value.Denot)). Member ss s) c.deref-2.ensures.value k)))
    (h s m)) c.merge_seen.ensures.from
