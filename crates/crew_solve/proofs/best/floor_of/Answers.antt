use Rattle.std.proofs.Common.{◌≡◌, ◌∙◌, ℕ, true, sym, subst, to_z, of_z, w64, arith}
use Rattle.std.specs.Prelude.{◌≤ℤ◌, nat_eq}
use Rattle.std.proofs.lemmas.Bool.Decides.{nat_tests}
use Rattle.std.proofs.lemmas.Int.{ints}
use Rattle.crew_pairing.specs.declared.vector.PairingVector.{PairingVector}
use Rattle.crew_pool.specs.declared.label_walk.LabelWalk.{LabelWalk}
use Rattle.crew_resource.proofs.Members.{Member-get_or}
use Rattle.crew_solve.specs.Machinery.Floors.{may_begin}
use Rattle.crew_solve.specs.Machinery.Homes.{walk_by_key}
use Rattle.crew_solve.proofs.Floored.{floor-more}
use Rattle.crew_solve.proofs.best.floor_of.Goals as goal

same-duty : (a b : ℕ) → nat_eq a b ≡ true → a ≡ b
same-duty a b e = grind (arith, nat_tests)

pub floor_below-floor-requires-clause-there : goal.floor_below-floor-requires-clause-there
floor_below-floor-requires-clause-there c =
    let labels = c.args.labels.now in
    let i = c.loop-label.label-index in
    (c.requires.readable c.label-item.result (Member-get_or labels i c.label-item.result c.loop-label-test.true (sym c.label-item.is))).0

pub floor_below-floor-requires-clause-ranked : goal.floor_below-floor-requires-clause-ranked
floor_below-floor-requires-clause-ranked c =
    let labels = c.args.labels.now in
    let i = c.loop-label.label-index in
    (c.requires.readable c.label-item.result (Member-get_or labels i c.label-item.result c.loop-label-test.true (sym c.label-item.is))).1

pub floor_below-floor-requires-clause-whole : goal.floor_below-floor-requires-clause-whole
floor_below-floor-requires-clause-whole c =
    let labels = c.args.labels.now in
    let i = c.loop-label.label-index in
    same-duty c.label-item.result.1.duty 4294967295 (c.requires.whole c.label-item.result (Member-get_or labels i c.label-item.result c.loop-label-test.true (sym c.label-item.is)))

pub loop-label-init : goal.loop-label-init
loop-label-init c = record { floor = λ l m may. absurd m; marks = c.requires.marks }

pub loop-label-preserved : goal.loop-label-preserved
loop-label-preserved c =
    let beside = c.args.kept.now.beside in
    let sweep = c.args.sweep.now in
    let labels = c.args.labels.now in
    let i = c.loop-label.label-index in
    let label = c.label-item.result in
    let floor = to_z w64 c.loop-label.floor-bits in
    let result = c.floor_below-floor.result in
    let next : to_z w64 (of_z w64 result) ≡ result = omega (arith, ints) in
    let pay : to_z w64 (of_z w64 c.duty_pay.result) ≡ label.0.duty_pay = (let same : to_z w64 (of_z w64 c.duty_pay.result) ≡ c.duty_pay.result = omega (arith, ints, c.duty_pay.type_inv) in same ∙ c.duty_pay.ensures) in
    let less : result ≤ℤ floor = omega (arith, ints, c.floor_below-floor.ensures.less) in
    let own : may_begin beside (walk_by_key sweep label.1) ≡ true → to_z w64 (of_z w64 result) ≤ℤ label.0.duty_pay = λ may. subst (λ z. z ≤ℤ label.0.duty_pay) (sym next) (subst (λ z. result ≤ℤ z) pay (c.floor_below-floor.ensures.low may)) in
    record {
      floor = floor-more beside sweep labels i label floor _ c.loop-label-test.true c.loop-label.invariant.floor
          (subst (λ z. z ≤ℤ floor) (sym next) less)
          (subst (λ (z : PairingVector × LabelWalk). may_begin beside (walk_by_key sweep z.1) ≡ true → to_z w64 (of_z w64 result) ≤ℤ z.0.duty_pay) c.label-item.is own);
      marks = c.floor_below-floor.ensures.marks;
    }
