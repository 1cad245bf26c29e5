use Rattle.std.proofs.Common.{◌<◌, ◌+◌, ◌++◌, ◌∷◌, [], IsTrue, List, arith, length, sym, take, subst}
use Rattle.crew_pool.specs.declared.label_walk.LabelWalk.{LabelWalk}
use Rattle.crew_resource.proofs.Members.{Member-at}
use Rattle.crew_step.proofs.Grown.{grown-itself}
use Rattle.crew_step.proofs.Loops.{item-at, item-known, take-grown}
use Rattle.crew_carry.specs.Labels.{AreCarriedLabels, IsCarriedLabel}
use Rattle.crew_carry.proofs.Permuted.{labels-at, labels-long}
use Rattle.crew_carry.proofs.CarriedLabels.{labels-more}
use Rattle.crew_carry.proofs.alike.are_in_order.Goals as goal

pub returns-then-olds-news : goal.returns-then-olds-news
returns-then-olds-news g c = (
  λ t. absurd (let q : ⊥ = (cc) in q),
  λ h. absurd (c.if-olds-news.true (labels-long c.args.ranks.now c.args.from.now c.args.to.now c.args.olds.now c.args.news.now h)),
)

pub is_twin-requires-clause-old : goal.is_twin-requires-clause-old
is_twin-requires-clause-old g c =
    let o = c.index-olds-place.result in
    c.requires.old_there o (item-known c.args.olds.now c.loop-place.place o c.loop-place-test.true c.index-olds-place.is)

pub is_twin-requires-clause-new : goal.is_twin-requires-clause-new
is_twin-requires-clause-new g c =
    let n = c.index-news-place.result in
    let within : c.loop-place.place < length c.args.news.now = (let a = c.loop-place-test.true in let b = c.if-olds-news.false in omega (arith, a, b)) in
    c.requires.new_there n (item-known c.args.news.now c.loop-place.place n within c.index-news-place.is)

pub returns-then-not-is_twin : goal.returns-then-not-is_twin
returns-then-not-is_twin g c =
    let i = c.loop-place.place in
    let o = c.index-olds-place.result in
    let n = c.index-news-place.result in
    let within : i < length c.args.news.now = (let a = c.loop-place-test.true in let b = c.if-olds-news.false in omega (arith, a, b)) in
    let at-old = item-at c.args.olds.now i o c.loop-place-test.true c.index-olds-place.is in
    let at-new = item-at c.args.news.now i n within c.index-news-place.is in (
      λ t. absurd (let q : ⊥ = (cc) in q),
      λ h.
          let one = labels-at c.args.ranks.now c.args.from.now c.args.to.now c.args.olds.now c.args.news.now i o n h at-old at-new in
          subst IsTrue c.if-not-is_twin.true (c.is_twin.ensures.1 (one.value, one.duty, one.walk)),
    )

pub loop-place-preserved : goal.loop-place-preserved
loop-place-preserved g c =
    let Label = g.row.R-Value.Denot × LabelWalk in
    let ranks = c.args.ranks.now in
    let from = c.args.from.now in
    let to = c.args.to.now in
    let i = c.loop-place.place in
    let o = c.index-olds-place.result in
    let n = c.index-news-place.result in
    let os = c.args.olds.now in
    let ns = c.args.news.now in
    let within : i < length ns = (let a = c.loop-place-test.true in let b = c.if-olds-news.false in omega (arith, a, b)) in
    let at-old = item-at os i o c.loop-place-test.true c.index-olds-place.is in
    let at-new = item-at ns i n within c.index-news-place.is in
    let same = c.is_twin.ensures.0 c.if-not-is_twin.false in
    let known = Member-at ns i n at-new in
    let one : IsCarriedLabel ranks from to o n = record {
      value = same.0;
      there = c.requires.new_there n known;
      duty = same.1;
      walk = same.2;
    }
    in
    let more = labels-more ranks from to to (grown-itself to) (take i os) (take i ns) o n c.loop-place.invariant one in
    subst (λ (xs : List Label). AreCarriedLabels ranks from to xs (take (i + 1) ns)) (sym (take-grown os i o at-old))
    (subst (λ (ys : List Label). AreCarriedLabels ranks from to (take i os ++ o ∷ []) ys) (sym (take-grown ns i n at-new)) more)
