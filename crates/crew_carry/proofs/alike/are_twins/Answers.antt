use Rattle.std.proofs.Common.{◌<◌, ◌+◌, ◌++◌, ◌∷◌, [], ◌∙◌, Bor, IsTrue, List, arith, length, map, sym, take, subst}
use Rattle.std.proofs.lemmas.List.{length-map}
use Rattle.crew_pool.specs.declared.label_walk.LabelWalk.{LabelWalk}
use Rattle.crew_resource.proofs.Members.{Member-at}
use Rattle.crew_step.proofs.Grown.{grown-itself}
use Rattle.crew_step.proofs.Loops.{item-at, take-grown}
use Rattle.crew_carry.specs.Labels.{AreCarriedLabels, IsCarriedLabel}
use Rattle.crew_carry.proofs.Permuted.{labels-at, labels-long}
use Rattle.crew_carry.proofs.CarriedLabels.{labels-more}
use Rattle.crew_carry.proofs.Paired.{mapped-at}
use Rattle.crew_carry.proofs.alike.are_twins.Goals as goal

pub returns-then-olds-news : goal.returns-then-olds-news
returns-then-olds-news g c =
    let Label = g.row.R-Value.Denot × LabelWalk in
    let now : Bor Label → Label = λ b. b.now in
    let os = c.args.olds.now in
    let ns = c.args.news.now in (
      λ t. absurd (let q : ⊥ = (cc) in q),
      λ h. absurd (c.if-olds-news.true (sym (length-map os now) ∙ (labels-long c.args.ranks.now c.args.from.now c.args.to.now (map now os) (map now ns) h ∙ length-map ns now))),
    )

pub is_twin-requires-clause-old : goal.is_twin-requires-clause-old
is_twin-requires-clause-old g c =
    let Label = g.row.R-Value.Denot × LabelWalk in
    let now : Bor Label → Label = λ b. b.now in
    let i = c.loop-place.place in
    let o = c.index-olds-place.result in
    let at = mapped-at now c.args.olds.now i o (item-at c.args.olds.now i o c.loop-place-test.true c.index-olds-place.is) in
    c.requires.old_there o.now (Member-at (map now c.args.olds.now) i o.now at)

pub is_twin-requires-clause-new : goal.is_twin-requires-clause-new
is_twin-requires-clause-new g c =
    let Label = g.row.R-Value.Denot × LabelWalk in
    let now : Bor Label → Label = λ b. b.now in
    let i = c.loop-place.place in
    let n = c.index-news-place.result in
    let within : i < length c.args.news.now = (let a = c.loop-place-test.true in let b = c.if-olds-news.false in omega (arith, a, b)) in
    let at = mapped-at now c.args.news.now i n (item-at c.args.news.now i n within c.index-news-place.is) in
    c.requires.new_there n.now (Member-at (map now c.args.news.now) i n.now at)

pub returns-then-not-is_twin : goal.returns-then-not-is_twin
returns-then-not-is_twin g c =
    let Label = g.row.R-Value.Denot × LabelWalk in
    let now : Bor Label → Label = λ b. b.now in
    let i = c.loop-place.place in
    let o = c.index-olds-place.result in
    let n = c.index-news-place.result in
    let within : i < length c.args.news.now = (let a = c.loop-place-test.true in let b = c.if-olds-news.false in omega (arith, a, b)) in
    let at-old = mapped-at now c.args.olds.now i o (item-at c.args.olds.now i o c.loop-place-test.true c.index-olds-place.is) in
    let at-new = mapped-at now c.args.news.now i n (item-at c.args.news.now i n within c.index-news-place.is) in (
      λ t. absurd (let q : ⊥ = (cc) in q),
      λ h.
          let one = labels-at c.args.ranks.now c.args.from.now c.args.to.now (map now c.args.olds.now) (map now c.args.news.now) i o.now n.now h at-old at-new in
          subst IsTrue c.if-not-is_twin.true (c.is_twin.ensures.1 (one.value, one.duty, one.walk)),
    )

pub loop-place-preserved : goal.loop-place-preserved
loop-place-preserved g c =
    let Label = g.row.R-Value.Denot × LabelWalk in
    let now : Bor Label → Label = λ b. b.now in
    let ranks = c.args.ranks.now in
    let from = c.args.from.now in
    let to = c.args.to.now in
    let i = c.loop-place.place in
    let o = c.index-olds-place.result in
    let n = c.index-news-place.result in
    let os = map now c.args.olds.now in
    let ns = map now c.args.news.now in
    let within : i < length c.args.news.now = (let a = c.loop-place-test.true in let b = c.if-olds-news.false in omega (arith, a, b)) in
    let at-old = mapped-at now c.args.olds.now i o (item-at c.args.olds.now i o c.loop-place-test.true c.index-olds-place.is) in
    let at-new = mapped-at now c.args.news.now i n (item-at c.args.news.now i n within c.index-news-place.is) in
    let same = c.is_twin.ensures.0 c.if-not-is_twin.false in
    let known = Member-at ns i n.now at-new in
    let one : IsCarriedLabel ranks from to o.now n.now = record {
      value = same.0;
      there = c.requires.new_there n.now known;
      duty = same.1;
      walk = same.2;
    }
    in
    let more = labels-more ranks from to to (grown-itself to) (take i os) (take i ns) o.now n.now c.loop-place.invariant one in
    subst (λ (xs : List Label). AreCarriedLabels ranks from to xs (take (i + 1) ns)) (sym (take-grown os i o.now at-old))
    (subst (λ (ys : List Label). AreCarriedLabels ranks from to (take i os ++ o.now ∷ []) ys) (sym (take-grown ns i n.now at-new)) more)
