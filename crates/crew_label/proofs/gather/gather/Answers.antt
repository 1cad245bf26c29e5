use Rattle.std.proofs.Common.{to_z, of_z, w32, List, map, sym, ◌∙◌, ap, subst}
use Rattle.std.proofs.lemmas.Result.{IfOk-weaker}
use Rattle.crew_resource.specs.Members.{Member}
use Rattle.crew_label.specs.Machinery.Rules.{same_by}
use Rattle.crew_label.specs.Machinery.Seeing.{AreTold, labels_of}
use Rattle.crew_label.specs.Pools.{ArePoolOf, AreRising}
use Rattle.crew_label.specs.Walks.{shown}
use Rattle.crew_label.specs.declared.label.Label.{Label}
use Rattle.crew_label.specs.declared.seen.Seen.{Seen}
use Rattle.crew_label.proofs.SeenLabels.{labels_all}
use Rattle.crew_label.proofs.gather.gather.Goals as goal

pub gather_seen-requires-clause-counts : goal.gather_seen-requires-clause-counts
gather_seen-requires-clause-counts g c l m =
    c.requires.counts l (subst (λ (ls : List (Label g.row.R-Value.Denot)). Member ls l) (ap (λ (ss : List (Seen g.row.R-Value.Denot)). labels_of ss) c.deref-2.ensures.value ∙ c.in_ok-seen.ensures.labels) m)

pub gather_seen-requires-clause-told : goal.gather_seen-requires-clause-told
gather_seen-requires-clause-told g c t =
    let m = to_z w32 (of_z w32 c.moment_of-moment.result) in
    let f = λ (v : g.row.R-Value.Denot). g.R.Marked.marks_of c.args.resource.now v m in
    (m, subst (λ (ss : List (Seen g.row.R-Value.Denot)). AreTold f ss) (sym c.deref-2.ensures.value) (c.in_ok-seen.ensures.told f (c.deref.ensures.value ∙ c.in_ok-marks.ensures t)))

pub returns-clause-rises : goal.returns-clause-rises
returns-clause-rises g c =
    let labels = λ (ss : List (Seen g.row.R-Value.Denot)). labels_of ss in
    IfOk-weaker c.copy_seen.result _ _ (λ made h. subst (AreRising g.R.Value.Ord.cmp) (sym (h ∙ ap labels c.deref-3.ensures.value)) c.in_ok-pool.ensures.rises) c.copy_seen.ensures

pub returns-clause-pool : goal.returns-clause-pool
returns-clause-pool g c =
    let trail = g.T.Trails.trail c.args.trails.now in
    let same = same_by g.R.Resource.below g.R.Forgets.same_sums c.args.rule in
    let labels = λ (ss : List (Seen g.row.R-Value.Denot)). labels_of ss in
    IfOk-weaker c.copy_seen.result _ _ (λ made h.
    subst (λ (ls : List (Label g.row.R-Value.Denot)). ArePoolOf g.R.Resource.below same trail (map (shown trail) c.args.labels.now) ls) (sym (h ∙ ap labels c.deref-3.ensures.value))
    (subst (λ (ls : List (Label g.row.R-Value.Denot)). ArePoolOf g.R.Resource.below same trail (map (shown trail) ls) (labels_of c.in_ok-pool.pool.items)) (ap labels c.deref-2.ensures.value ∙ c.in_ok-seen.ensures.labels) c.in_ok-pool.ensures.pool))
    c.copy_seen.ensures

pub returns-clause-from : goal.returns-clause-from
returns-clause-from g c =
    let labels = λ (ss : List (Seen g.row.R-Value.Denot)). labels_of ss in
    IfOk-weaker c.copy_seen.result _ _ (λ made h l m.
    subst (λ (ls : List (Label g.row.R-Value.Denot)). Member ls l) (ap labels c.deref-2.ensures.value ∙ c.in_ok-seen.ensures.labels)
    (labels_all c.in_ok-pool.pool.items c.deref-2.result.now c.in_ok-pool.ensures.from l
    (subst (λ (ls : List (Label g.row.R-Value.Denot)). Member ls l) (h ∙ ap labels c.deref-3.ensures.value) m)))
    c.copy_seen.ensures
