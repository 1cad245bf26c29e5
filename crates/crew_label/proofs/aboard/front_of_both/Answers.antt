use Rattle.std.proofs.Common.{List, map, inl, inr, sym, ◌∙◌, subst, ⊎_elim}
use Rattle.std.proofs.lemmas.Result.{IfOk-weaker}
use Rattle.crew_resource.specs.Members.{Member}
use Rattle.crew_forgetful.specs.Machinery.Sums.{is_same}
use Rattle.crew_label.specs.Pools.{ArePoolOf, AreRising}
use Rattle.crew_label.specs.Walks.{shown}
use Rattle.crew_label.specs.declared.label.Label.{Label}
use Rattle.crew_label.proofs.Runs.{front-alone}
use Rattle.crew_label.proofs.aboard.front_of_both.Goals as goal

pub gather-requires-clause-counts : goal.gather-requires-clause-counts
gather-requires-clause-counts g c = c.requires.cut_counts

pub merge_lists-requires-clause-one_rises : goal.merge_lists-requires-clause-one_rises
merge_lists-requires-clause-one_rises g c = subst (AreRising g.R.Value.Ord.cmp) (sym c.deref.ensures.value) c.in_ok-clean.ensures.rises

pub merge_lists-requires-clause-two_rises : goal.merge_lists-requires-clause-two_rises
merge_lists-requires-clause-two_rises g c = subst (AreRising g.R.Value.Ord.cmp) (sym c.deref-2.ensures.value) c.in_ok-cut.ensures.rises

pub merge_lists-requires-clause-one_counts : goal.merge_lists-requires-clause-one_counts
merge_lists-requires-clause-one_counts g c l m =
    c.requires.kept_counts l (c.in_ok-clean.ensures.from l (subst (λ (ls : List (Label g.row.R-Value.Denot)). Member ls l) c.deref.ensures.value m))

pub merge_lists-requires-clause-two_counts : goal.merge_lists-requires-clause-two_counts
merge_lists-requires-clause-two_counts g c l m =
    c.requires.cut_counts l (c.in_ok-cut.ensures.from l (subst (λ (ls : List (Label g.row.R-Value.Denot)). Member ls l) c.deref-2.ensures.value m))

pub returns-then-is_empty-clause-rises : goal.returns-then-is_empty-clause-rises
returns-then-is_empty-clause-rises g c = c.in_ok-clean.ensures.rises

pub returns-then-is_empty-clause-pool : goal.returns-then-is_empty-clause-pool
returns-then-is_empty-clause-pool g c =
    front-alone g.R.Value.Ord.cmp g.R.Resource.below g.R.Forgets.same_sums (g.T.Trails.trail c.args.trails.now) c.args.kept.now c.args.cut.now c.in_ok-clean.clean.items
    (sym c.is_empty.ensures ∙ c.if-is_empty.true) c.in_ok-clean.ensures

pub returns-then-is_empty-clause-from : goal.returns-then-is_empty-clause-from
returns-then-is_empty-clause-from g c l m = inl (c.in_ok-clean.ensures.from l m)

pub returns-clause-rises : goal.returns-clause-rises
returns-clause-rises g c = c.merge_lists.ensures.rises

pub returns-clause-pool : goal.returns-clause-pool
returns-clause-pool g c =
    let trail = g.T.Trails.trail c.args.trails.now in
    let below = g.R.Resource.below in
    let kept = map (shown trail) c.args.kept.now in
    let cut = map (shown trail) c.args.cut.now in
    IfOk-weaker c.merge_lists.result _ _ (λ front h.
    h kept cut
    (subst (λ (ls : List (Label g.row.R-Value.Denot)). ArePoolOf below (is_same below) trail kept ls) (sym c.deref.ensures.value) c.in_ok-clean.ensures.pool)
    (subst (λ (ls : List (Label g.row.R-Value.Denot)). ArePoolOf below (is_same below) trail cut ls) (sym c.deref-2.ensures.value) c.in_ok-cut.ensures.pool))
    c.merge_lists.ensures.pool

pub returns-clause-from : goal.returns-clause-from
returns-clause-from g c =
    IfOk-weaker c.merge_lists.result _ _ (λ front h l m.
    ⊎_elim
    (λ k. inl (c.in_ok-clean.ensures.from l (subst (λ (ls : List (Label g.row.R-Value.Denot)). Member ls l) c.deref.ensures.value k)))
    (λ k. inr (c.in_ok-cut.ensures.from l (subst (λ (ls : List (Label g.row.R-Value.Denot)). Member ls l) c.deref-2.ensures.value k)))
    (h l m))
    c.merge_lists.ensures.from
