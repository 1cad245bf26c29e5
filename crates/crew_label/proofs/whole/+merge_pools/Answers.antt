use Rattle.std.proofs.Common.{◌++◌, Bor, to_z, of_z, w32, List, ℤ, map, inl, inr, refl, sym, ◌∙◌, ap, subst, ⊎_elim, arith}
use Rattle.std.proofs.lemmas.Int.{to_z-of_z}
use Rattle.std.proofs.lemmas.Result.{IfOk-weaker}
use Rattle.crew_resource.specs.Members.{Member}
use Rattle.crew_label.specs.Machinery.Seeing.{AreTold, labels_of}
use Rattle.crew_label.specs.Pools.{AreCounted, ArePoolOf, AreRising}
use Rattle.crew_label.specs.declared.label.Label.{Label}
use Rattle.crew_label.specs.declared.seen.Seen.{Seen}
use Rattle.crew_label.proofs.Several.{among_first, among_rest, from_several, pool_of_several, rest_of, several_are, shorter_rest}
use Rattle.crew_label.proofs.SeenLabels.{labels_from}
use Rattle.crew_label.proofs.whole.+merge_pools.Goals as goal

pub returns-in_default-clause-rises : goal.returns-in_default-clause-rises
returns-in_default-clause-rises g t c =
    IfOk-weaker c.copy_seen.result _ _ (λ made h. subst (AreRising g.R.Value.Ord.cmp) (sym h) c.requires.rises) c.copy_seen.ensures

pub returns-in_default-clause-from : goal.returns-in_default-clause-from
returns-in_default-clause-from g t c =
    IfOk-weaker c.copy_seen.result _ _ (λ made h l m. inl (subst (λ (ls : List (Label g.row.R-Value.Denot)). Member ls l) h m)) c.copy_seen.ensures

pub merge_seen-requires-clause-one_rises : goal.merge_seen-requires-clause-one_rises
merge_seen-requires-clause-one_rises g t c = c.requires.rises

pub merge_seen-requires-clause-two_rises : goal.merge_seen-requires-clause-two_rises
merge_seen-requires-clause-two_rises g t c =
    let labels = λ (ss : List (Seen g.row.R-Value.Denot)). labels_of ss in
    subst (AreRising g.R.Value.Ord.cmp) (sym (ap labels c.deref-2.ensures.value ∙ (c.in_ok-seen.ensures.labels ∙ c.as_slice-labels.ensures.all))) c.as_slice-labels.ensures.rises

pub merge_seen-requires-clause-one_counts : goal.merge_seen-requires-clause-one_counts
merge_seen-requires-clause-one_counts g t c = c.requires.whole_counts

pub merge_seen-requires-clause-two_counts : goal.merge_seen-requires-clause-two_counts
merge_seen-requires-clause-two_counts g t c l m =
    let pools = c.args.pools.now in
    let first = c.first-item.result in
    let pool = λ (p : Bor (List (Label g.row.R-Value.Denot))). p.now in
    let is = several_are pool pools first c.in-len1-up.len_at_least c.first-item.is in
    let labels = λ (ss : List (Seen g.row.R-Value.Denot)). labels_of ss in
    c.requires.counts first.now (among_first (map pool pools) first.now (map pool (rest_of pools)) is) l
    (subst (λ (ls : List (Label g.row.R-Value.Denot)). Member ls l) (ap labels c.deref-2.ensures.value ∙ (c.in_ok-seen.ensures.labels ∙ c.as_slice-labels.ensures.all)) m)

pub merge_seen-requires-clause-told : goal.merge_seen-requires-clause-told
merge_seen-requires-clause-told g t c k =
    let m = to_z w32 (of_z w32 c.args.moment) in
    let f = λ (v : g.row.R-Value.Denot). g.R.Marked.marks_of c.args.resource.now v m in (
      m,
      subst (λ (z : ℤ). AreTold (λ (v : g.row.R-Value.Denot). g.R.Marked.marks_of c.args.resource.now v z) c.args.whole.now) (sym (to_z-of_z w32 c.args.moment c.ranges.moment)) c.requires.told,
      subst (λ (ss : List (Seen g.row.R-Value.Denot)). AreTold f ss) (sym c.deref-2.ensures.value) (c.in_ok-seen.ensures.told f (c.deref.ensures.value ∙ c.in_ok-marks.ensures refl)),
    )

pub merge_pools-requires : goal.merge_pools-requires
merge_pools-requires g t c κs within =
    let pools = c.args.pools.now in
    let first = c.first-item.result in
    let fewer = shorter_rest pools first c.in-len1-up.len_at_least c.first-item.is in
    let pool = λ (p : Bor (List (Label g.row.R-Value.Denot))). p.now in
    let is = several_are pool pools first c.in-len1-up.len_at_least c.first-item.is in
    let labels = λ (ss : List (Seen g.row.R-Value.Denot)). labels_of ss in
    let m = to_z w32 (of_z w32 c.args.moment) in
    let f = λ (v : g.row.R-Value.Denot). g.R.Marked.marks_of c.args.resource.now v m in
    let seen = ap labels c.deref-2.ensures.value ∙ (c.in_ok-seen.ensures.labels ∙ c.as_slice-labels.ensures.all) in
    let old : AreTold f c.args.whole.now = subst (λ (z : ℤ). AreTold (λ (v : g.row.R-Value.Denot). g.R.Marked.marks_of c.args.resource.now v z) c.args.whole.now) (sym (to_z-of_z w32 c.args.moment c.ranges.moment)) c.requires.told in
    let new : AreTold f c.deref-2.result.now = subst (λ (ss : List (Seen g.row.R-Value.Denot)). AreTold f ss) (sym c.deref-2.ensures.value) (c.in_ok-seen.ensures.told f (c.deref.ensures.value ∙ c.in_ok-marks.ensures refl)) in
    let rises : AreRising g.R.Value.Ord.cmp (labels_of c.deref-3.result.now) = subst (AreRising g.R.Value.Ord.cmp) (sym (ap labels c.deref-3.ensures.value)) c.in_ok-whole.ensures.rises in
    let counts : AreCounted (g.R.Staged.count_of c.args.resource.now) (g.T.Trails.leads c.args.trails.now) (g.T.Trails.trail c.args.trails.now) (labels_of c.deref-3.result.now) =
    (λ l n. ⊎_elim (λ h. c.requires.whole_counts l h)
    (λ h. c.requires.counts first.now (among_first (map pool pools) first.now (map pool (rest_of pools)) is) l (subst (λ (ls : List (Label g.row.R-Value.Denot)). Member ls l) seen h))
    (labels_from c.in_ok-whole.whole.items c.args.whole.now c.deref-2.result.now c.in_ok-whole.ensures.from l (subst (λ (ls : List (Label g.row.R-Value.Denot)). Member ls l) (ap labels c.deref-3.ensures.value) n))) in
    let each = λ (ls : List (Label g.row.R-Value.Denot)) (n : Member (map pool (rest_of pools)) ls). c.requires.counts ls (among_rest (map pool pools) first.now (map pool (rest_of pools)) is ls n) in (
      omega (arith, fewer),
      (
        within.0,
        (
          within.1.0,
          (
            within.1.1.0,
            (
              within.1.1.1.0,
              (
                within.1.1.1.1.0,
                (
                  within.1.1.1.1.1,
                  (
                    c.requires.tell,
                    (
                      rises,
                      (
                        counts,
                        (
                          each,
                          λ s n. ⊎_elim (old s) (new s) (c.in_ok-whole.ensures.from s (subst (λ (ss : List (Seen g.row.R-Value.Denot)). Member ss s) c.deref-3.ensures.value n)),
                        ),
                      ),
                    ),
                  ),
                ),
              ),
            ),
          ),
        ),
      ),
    )

pub returns-clause-rises : goal.returns-clause-rises
returns-clause-rises g t c = c.merge_pools.ensures.rises

pub returns-clause-pool : goal.returns-clause-pool
returns-clause-pool g t c =
    let pools = c.args.pools.now in
    let first = c.first-item.result in
    let trail = g.T.Trails.trail c.args.trails.now in
    let below = g.R.Resource.below in
    let same = g.R.Forgets.same_sums in
    let pool = λ (p : Bor (List (Label g.row.R-Value.Denot))). p.now in
    let is = several_are pool pools first c.in-len1-up.len_at_least c.first-item.is in
    let labels = λ (ss : List (Seen g.row.R-Value.Denot)). labels_of ss in
    let seen = ap labels c.deref-2.ensures.value ∙ (c.in_ok-seen.ensures.labels ∙ c.as_slice-labels.ensures.all) in
    IfOk-weaker c.merge_pools.result _ _ (λ made h.
    pool_of_several (map pool pools) first.now (map pool (rest_of pools)) is (labels_of c.args.whole.now) (labels_of c.deref-3.result.now) made.items below same trail
    (λ firsts seconds i j. subst (λ (ls : List (Label g.row.R-Value.Denot)). ArePoolOf below same trail (firsts ++ seconds) ls) (sym (ap labels c.deref-3.ensures.value))
    (c.in_ok-whole.ensures.pool firsts seconds i (subst (λ (ls : List (Label g.row.R-Value.Denot)). ArePoolOf below same trail seconds ls) (sym seen) j)))
    h) c.merge_pools.ensures.pool

pub returns-clause-from : goal.returns-clause-from
returns-clause-from g t c =
    let pools = c.args.pools.now in
    let first = c.first-item.result in
    let pool = λ (p : Bor (List (Label g.row.R-Value.Denot))). p.now in
    let is = several_are pool pools first c.in-len1-up.len_at_least c.first-item.is in
    let labels = λ (ss : List (Seen g.row.R-Value.Denot)). labels_of ss in
    let seen = ap labels c.deref-2.ensures.value ∙ (c.in_ok-seen.ensures.labels ∙ c.as_slice-labels.ensures.all) in
    IfOk-weaker c.merge_pools.result _ _ (λ made h.
    from_several (map pool pools) first.now (map pool (rest_of pools)) is (labels_of c.args.whole.now) (labels_of c.deref-3.result.now) made.items
    (λ l n. ⊎_elim (λ k. inl k) (λ k. inr (subst (λ (ls : List (Label g.row.R-Value.Denot)). Member ls l) seen k))
    (labels_from c.in_ok-whole.whole.items c.args.whole.now c.deref-2.result.now c.in_ok-whole.ensures.from l (subst (λ (ls : List (Label g.row.R-Value.Denot)). Member ls l) (ap labels c.deref-3.ensures.value) n)))
    h) c.merge_pools.ensures.from
