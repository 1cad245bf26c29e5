use Rattle.std.proofs.Common.{◌≡◌, ◌+◌, ◌++◌, ◌∷◌, [], ℕ, List, Option, Some, length, sym, subst, arith, length-append}
use Rattle.std.specs.Prelude.{slice_get}
use Rattle.std.proofs.lemmas.Option.{slice_get_within}
use Rattle.crew_carry.specs.Machinery.Matches.{AreTied}
use Rattle.crew_carry.proofs.Matching.{all-more, passed-more, tied-more}
use Rattle.std.specs.Cmp.{on_total}
use Rattle.crew_pairing.specs.Keys.{key_cmp, key_total}
use Rattle.crew_pairing.specs.declared.duty.Duty.{Duty}
use Rattle.crew_carry.proofs.ranks.match_ranks.Goals as goal

pub loop-rank-preserved : goal.loop-rank-preserved
loop-rank-preserved c =
    let cmp = λ (d e : Duty). key_cmp d.key e.key in
    let total = on_total (λ (d : Duty). d.key) key_total in
    let xs = c.args.xs.now in
    let ys = c.args.ys.now in
    let i = c.loop-rank.rank in
    let x = c.at-x.result.now in
    let here = c.at-x.ensures in
    let inv = c.loop-rank.invariant in
    let n = c.loop-rank.next in
    let m = c.first_from-next.result in
    let f = c.first_from-next.ensures in
    let o = c.tied_at.result in
    let t = c.tied_at.ensures in
    let places = c.loop-rank.places.items in
    let long : length (places ++ o ∷ []) ≡ i + 1 = (let a = length-append places (o ∷ []) in let b = inv.1 in omega (arith, a, b)) in
    let pushed = sym c.in_ok-push.ensures.items in (
      f.within.1,
      subst (λ (items : List (Option ℕ)). length items ≡ i + 1) pushed long,
      subst (λ (items : List (Option ℕ)). (p q : ℕ) → slice_get items p ≡ Some (Some q) → AreTied cmp xs ys p q) pushed (tied-more cmp total xs ys i x here places inv.1 m o t.some inv.2),
      λ rise. passed-more cmp total xs ys i x here rise n m (inv.3 rise) f.before,
      λ rx ry few p q h a.
          subst (λ (items : List (Option ℕ)). slice_get items p ≡ Some (Some q)) pushed
          (all-more cmp total xs ys i x here places inv.1 m o t.some ry n (inv.3 rx) f.before f.there (t.none few) (inv.4 rx ry few) p q h a),
    )

pub returns : goal.returns
returns c =
    let inv = c.loop-rank.invariant in
    let xs = c.args.xs.now in
    let end = c.loop-rank-test.false in
    let count = c.len-rank-end.ensures in
    record {
      long = (let a = inv.1 in omega (arith, a, end, count));
      tied = inv.2;
      all = λ rx ry few p q a. inv.4 rx ry few p q (let w = slice_get_within xs p a.0 a.2 in omega (arith, w, end, count)) a;
    }
