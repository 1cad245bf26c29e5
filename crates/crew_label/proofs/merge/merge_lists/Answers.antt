use Rattle.std.proofs.Common.{◌++◌, to_z, of_z, w32, List, inl, inr, sym, ◌∙◌, ap, subst, ⊎_elim}
use Rattle.crew_resource.specs.Members.{Member}
use Rattle.crew_label.specs.Machinery.Rules.{same_by}
use Rattle.crew_label.specs.Machinery.Seeing.{AreTold, labels_of}
use Rattle.crew_label.specs.Pools.{ArePoolOf, AreRising}
use Rattle.crew_label.specs.declared.label.Label.{Label}
use Rattle.crew_label.specs.declared.seen.Seen.{Seen}
use Rattle.crew_label.proofs.SeenLabels.{labels_from}
use Rattle.crew_label.proofs.merge.merge_lists.Goals as goal

pub merge_seen-requires-clause-one_rises : goal.merge_seen-requires-clause-one_rises
merge_seen-requires-clause-one_rises g c =
    subst (AreRising g.R.Value.Ord.cmp) (sym (ap (λ (ss : List (Seen g.row.R-Value.Denot)). labels_of ss) c.deref-3.ensures.value ∙ c.in_ok-one.ensures.labels)) c.requires.one_rises

pub merge_seen-requires-clause-two_rises : goal.merge_seen-requires-clause-two_rises
merge_seen-requires-clause-two_rises g c =
    subst (AreRising g.R.Value.Ord.cmp) (sym (ap (λ (ss : List (Seen g.row.R-Value.Denot)). labels_of ss) c.deref-4.ensures.value ∙ c.in_ok-two.ensures.labels)) c.requires.two_rises

pub merge_seen-requires-clause-one_counts : goal.merge_seen-requires-clause-one_counts
merge_seen-requires-clause-one_counts g c l m =
    c.requires.one_counts l (subst (λ (ls : List (Label g.row.R-Value.Denot)). Member ls l) (ap (λ (ss : List (Seen g.row.R-Value.Denot)). labels_of ss) c.deref-3.ensures.value ∙ c.in_ok-one.ensures.labels) m)

pub merge_seen-requires-clause-two_counts : goal.merge_seen-requires-clause-two_counts
merge_seen-requires-clause-two_counts g c l m =
    c.requires.two_counts l (subst (λ (ls : List (Label g.row.R-Value.Denot)). Member ls l) (ap (λ (ss : List (Seen g.row.R-Value.Denot)). labels_of ss) c.deref-4.ensures.value ∙ c.in_ok-two.ensures.labels) m)

pub merge_seen-requires-clause-told : goal.merge_seen-requires-clause-told
merge_seen-requires-clause-told g c t =
    let m = to_z w32 (of_z w32 c.moment_of-moment.result) in
    let f = λ (v : g.row.R-Value.Denot). g.R.Marked.marks_of c.args.resource.now v m in (
      m,
      subst (λ (ss : List (Seen g.row.R-Value.Denot)). AreTold f ss) (sym c.deref-3.ensures.value) (c.in_ok-one.ensures.told f (c.deref.ensures.value ∙ c.in_ok-first.ensures t)),
      subst (λ (ss : List (Seen g.row.R-Value.Denot)). AreTold f ss) (sym c.deref-4.ensures.value) (c.in_ok-two.ensures.told f (c.deref-2.ensures.value ∙ c.in_ok-second.ensures t)),
    )

pub returns-clause-rises : goal.returns-clause-rises
returns-clause-rises g c =
    subst (AreRising g.R.Value.Ord.cmp) (sym (c.in_ok-labels.ensures ∙ ap (λ (ss : List (Seen g.row.R-Value.Denot)). labels_of ss) c.deref-5.ensures.value)) c.in_ok-whole.ensures.rises

pub returns-clause-pool : goal.returns-clause-pool
returns-clause-pool g c firsts seconds i j =
    let trail = g.T.Trails.trail c.args.trails.now in
    let same = same_by g.R.Resource.below g.R.Forgets.same_sums c.args.rule in
    let labels = λ (ss : List (Seen g.row.R-Value.Denot)). labels_of ss in
    subst (λ (ls : List (Label g.row.R-Value.Denot)). ArePoolOf g.R.Resource.below same trail (firsts ++ seconds) ls) (sym (c.in_ok-labels.ensures ∙ ap labels c.deref-5.ensures.value))
    (c.in_ok-whole.ensures.pool firsts seconds
    (subst (λ (ls : List (Label g.row.R-Value.Denot)). ArePoolOf g.R.Resource.below same trail firsts ls) (sym (ap labels c.deref-3.ensures.value ∙ c.in_ok-one.ensures.labels)) i)
    (subst (λ (ls : List (Label g.row.R-Value.Denot)). ArePoolOf g.R.Resource.below same trail seconds ls) (sym (ap labels c.deref-4.ensures.value ∙ c.in_ok-two.ensures.labels)) j))

pub returns-clause-from : goal.returns-clause-from
returns-clause-from g c l m =
    let labels = λ (ss : List (Seen g.row.R-Value.Denot)). labels_of ss in
    ⊎_elim
    (λ k. inl (subst (λ (ls : List (Label g.row.R-Value.Denot)). Member ls l) (ap labels c.deref-3.ensures.value ∙ c.in_ok-one.ensures.labels) k))
    (λ k. inr (subst (λ (ls : List (Label g.row.R-Value.Denot)). Member ls l) (ap labels c.deref-4.ensures.value ∙ c.in_ok-two.ensures.labels) k))
    (labels_from c.in_ok-whole.whole.items c.deref-3.result.now c.deref-4.result.now c.in_ok-whole.ensures.from l
    (subst (λ (ls : List (Label g.row.R-Value.Denot)). Member ls l) (c.in_ok-labels.ensures ∙ ap labels c.deref-5.ensures.value) m))
