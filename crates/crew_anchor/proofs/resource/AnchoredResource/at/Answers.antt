use Rattle.std.proofs.Common.{◌≡◌, ◌*ℤ◌, ◌∙◌, pos, ℤ, ap, arith, of_z, to_z, w64}
use Rattle.std.proofs.lemmas.Int.{ints}
use Rattle.crew_anchor.proofs.Shifting.{same-parts}
use Rattle.crew_anchor.proofs.resource.AnchoredResource.at.Goals as goal

pub returns : goal.returns
returns c =
    let rate = c.args.self.now.trip_rig in
    let whole : to_z w64 (of_z w64 c.args.minute) ≡ c.args.minute = omega (arith, ints) in
    let points : c.points_to.result ≡ pos rate *ℤ c.args.minute = c.points_to.ensures.value ∙ ap (λ (z : ℤ). pos rate *ℤ z) whole in
    same-parts _ _ _ _ _ _ _ _ _ _ _ _ _ _
    (omega (arith, ints)) (omega (arith, ints, points)) (omega (arith, ints)) (omega (arith, ints)) (omega (arith, ints)) (omega (arith, ints)) (omega (arith, ints))
