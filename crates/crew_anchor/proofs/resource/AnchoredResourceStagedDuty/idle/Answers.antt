use Rattle.std.proofs.Common.{◌≡◌, ◌*ℤ◌, ◌≤ℤ◌, ◌∙◌, neg_ℤ, pos, negsuc, ℤ, ap, arith, of_z, to_z, w32, w64}
use Rattle.std.proofs.lemmas.Int.{ints, clamps}
use Rattle.crew_anchor.specs.Machinery.Values.{near}
use Rattle.crew_anchor.proofs.Shifting.{same-parts}
use Rattle.crew_anchor.proofs.resource.AnchoredResourceStagedDuty.idle.Goals as goal

near-least : (z : ℤ) → negsuc 2_147_483_647 ≤ℤ near z
near-least z = omega (arith, ints, clamps)

near-most : (z : ℤ) → near z ≤ℤ pos 2_147_483_647
near-most z = omega (arith, ints, clamps)

kept : (z : ℤ) → negsuc 2_147_483_647 ≤ℤ z → z ≤ℤ pos 2_147_483_647 → to_z w32 (of_z w32 z) ≡ z
kept z h k = omega (arith, ints, h, k)

pub returns : goal.returns
returns c =
    let rate = c.args.self.now.trip_rig in
    let report = c.args.departure.now.report in
    let whole : to_z w64 (of_z w64 report) ≡ report = omega (arith, ints) in
    let minute : c.near_minute-minute.result ≡ near report = c.near_minute-minute.ensures.value ∙ ap near whole in
    let held : to_z w64 (of_z w64 c.near_minute-minute.result) ≡ near report = omega (arith, ints, minute) in
    let narrow : to_z w32 (of_z w32 (to_z w64 (of_z w64 c.near_minute-minute.result))) ≡ near report = ap (λ (z : ℤ). to_z w32 (of_z w32 z)) held ∙ kept (near report) (near-least report) (near-most report) in
    let points : c.points_to.result ≡ pos rate *ℤ near report = c.points_to.ensures.value ∙ ap (λ (z : ℤ). pos rate *ℤ z) held in
    same-parts _ _ _ _ _ _ _ _ _ _ _ _ _ _
    (omega (arith, ints)) (omega (arith, ints, points)) (omega (arith, ints)) (omega (arith, ints)) (omega (arith, ints)) (omega (arith, ints)) (ap neg_ℤ narrow)
