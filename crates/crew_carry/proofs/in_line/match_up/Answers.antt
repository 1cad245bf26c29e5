use Rattle.std.proofs.Common.{◌≡◌, ◌+◌, ◌++◌, ◌∷◌, [], ℕ, List, Option, Some, length, sym, subst, arith, length-append}
use Rattle.std.specs.Prelude.{slice_get}
use Rattle.std.proofs.lemmas.Option.{slice_get_within}
use Rattle.crew_step.proofs.Loops.{item-at}
use Rattle.crew_carry.specs.Machinery.Matches.{AreTied}
use Rattle.crew_carry.proofs.Matching.{all-more, passed-more, tied-more}
use Rattle.crew_carry.proofs.in_line.match_up.Goals as goal

pub loop-x-preserved : goal.loop-x-preserved
loop-x-preserved g c =
    let cmp = g.X.InLine.order in
    let total = g.met.X.InLine.total in
    let xs = c.args.xs.now in
    let ys = c.args.ys.now in
    let i = c.loop-x.x-index in
    let x = c.x-item.result in
    let here = item-at xs i x c.loop-x-test.true c.x-item.is in
    let inv = c.loop-x.invariant in
    let n = c.loop-x.next in
    let m = c.first_from-next.result in
    let f = c.first_from-next.ensures in
    let o = c.tied_at.result in
    let t = c.tied_at.ensures in
    let places = c.loop-x.places.items in
    let long : length (places ++ o ∷ []) ≡ i + 1 = (let a = length-append places (o ∷ []) in let b = inv.1 in omega (arith, a, b)) in
    let pushed = sym c.in_ok-push.ensures.items in (
      f.within.1,
      subst (λ (items : List (Option ℕ)). length items ≡ i + 1) pushed long,
      subst (λ (items : List (Option ℕ)). (p q : ℕ) → slice_get items p ≡ Some (Some q) → AreTied cmp xs ys p q) pushed (tied-more cmp total xs ys i x here places inv.1 m o t.some inv.2),
      λ rise. passed-more cmp total xs ys i x here rise n m (inv.3 rise) f.before,
      λ rx ry few p q h a.
          subst (λ (items : List (Option ℕ)). slice_get items p ≡ Some (Some q)) pushed
          (all-more cmp total xs ys i x here places inv.1 m o t.some ry n (inv.3 rx) f.before f.there (t.none few) (inv.4 rx ry few) p q h a),
    )

pub returns : goal.returns
returns g c =
    let inv = c.loop-x.invariant in
    let xs = c.args.xs.now in
    record {
      long = (let a = inv.1 in omega (arith, a));
      tied = inv.2;
      all = λ rx ry few p q a. inv.4 rx ry few p q (let w = slice_get_within xs p a.0 a.2 in omega (arith, w)) a;
    }
