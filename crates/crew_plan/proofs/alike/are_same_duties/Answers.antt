use Rattle.std.proofs.Common.{◌≡◌, ◌∙◌, ◌≤◌, ◌++◌, ◌∷◌, [], arith, length, refl, sym, take}
use Rattle.crew_plan.proofs.Among.{key-more, take-all}
use Rattle.crew_plan.proofs.alike.are_same_duties.Goals as goal

pub loop-place-preserved : goal.loop-place-preserved
loop-place-preserved c =
    let one = c.args.one.now in
    let other = c.args.other.now in
    let i = c.loop-place.place in
    let d = c.at.result.now in
    let e = c.at-in-loop-place.result.now in
    let first = key-more one i d c.at.ensures in
    let second = key-more other i e c.at-in-loop-place.ensures in
    let same : d ≡ e = c.if-not-is_same_duty.ensures.0 refl in
    let so_far : take i one ≡ take i other = c.loop-place.invariant in
    let both : take i one ++ d ∷ [] ≡ take i other ++ e ∷ [] = λ j. so_far j ++ same j ∷ [] in
    first ∙ (both ∙ sym second)

pub returns : goal.returns
returns c = λ _.
    let one = c.args.one.now in
    let other = c.args.other.now in
    let i = c.loop-place.place in
    let end : length one ≤ i = omega (arith, c.len-place-end.ensures, c.loop-place-test.false) in
    let past : length other ≤ i = omega (arith, c.if-len.false, c.len.ensures, c.len-2.ensures, end) in
    let so_far : take i one ≡ take i other = c.loop-place.invariant in
    sym (take-all one i end) ∙ (so_far ∙ take-all other i past)
