use Rattle.std.proofs.Common.{◌≡◌, ◌∙◌, arith, of_z, subst, sym, to_z, w64}
use Rattle.std.specs.Prelude.{◌≤ℤ◌}
use Rattle.std.proofs.lemmas.Int.{ints}
use Rattle.crew_pairing.specs.declared.vector.PairingVector.{PairingVector}
use Rattle.crew_pool.specs.declared.label_walk.LabelWalk.{LabelWalk}
use Rattle.crew_sweep.proofs.Lows.{floor-more}
use Rattle.crew_sweep.proofs.digest.floor_of.Goals as goal

pub loop-label-preserved : goal.loop-label-preserved
loop-label-preserved c =
    let labels = c.args.labels.now in
    let i = c.loop-label.label-index in
    let label = c.label-item.result in
    let floor = to_z w64 c.loop-label.floor-bits in
    let next = to_z w64 (of_z w64 c.min-floor.result) in
    let value : next ≡ c.min-floor.result = omega (arith, ints, c.min-floor.type_inv) in
    let same : to_z w64 (of_z w64 c.duty_pay.result) ≡ c.duty_pay.result = omega (arith, ints, c.duty_pay.type_inv) in
    let less : next ≤ℤ floor = subst (λ z. z ≤ℤ floor) (sym value) c.min-floor.ensures.self_bound in
    let own : next ≤ℤ label.0.duty_pay = subst (λ z. z ≤ℤ label.0.duty_pay) (sym value) (subst (λ z. c.min-floor.result ≤ℤ z) (same ∙ c.duty_pay.ensures) c.min-floor.ensures.other_bound) in
    floor-more labels i label floor next c.loop-label-test.true c.loop-label.invariant less
    (subst (λ (z : PairingVector × LabelWalk). next ≤ℤ z.0.duty_pay) c.label-item.is own)
