use Rattle.std.proofs.Common.{◌≡◌, ◌∙◌, ◌-ℤ◌, ◌≤ℤ◌, ap, arith, neg_ℤ, negsuc, of_z, pos, refl, to_z, w32, w64, ℤ}
use Rattle.std.specs.Prelude.{unsigned_abs}
use Rattle.std.proofs.lemmas.Int.{ints}
use Rattle.crew_anchor.proofs.Shifting.{same-parts}
use Rattle.crew_anchor.proofs.vector.AnchoredVector.of.Goals as goal

whole : (z : ℤ) → pos 0 ≤ℤ z → pos (unsigned_abs z) ≡ z
whole (pos n) h = refl
whole (negsuc n) h = absurd (omega (arith, ints, h))

counted : (z : ℤ) → pos 0 ≤ℤ z → z ≤ℤ pos 4_294_967_295 → pos (unsigned_abs (to_z w64 (of_z w64 z))) ≡ z
counted z h k =
    let same : to_z w64 (of_z w64 z) ≡ z = omega (arith, ints, h, k) in
    ap (λ y. pos (unsigned_abs y)) same ∙ whole z h

turned : (z : ℤ) → negsuc 2_147_483_646 ≤ℤ z → z ≤ℤ pos 2_147_483_648 → neg_ℤ (to_z w32 (of_z w32 (to_z w64 (of_z w64 (pos 0 -ℤ to_z w64 (of_z w64 z)))))) ≡ z
turned z h k =
    let same : to_z w64 (of_z w64 z) ≡ z = omega (arith, ints, h, k) in
    let back : to_z w64 (of_z w64 (pos 0 -ℤ to_z w64 (of_z w64 z))) ≡ pos 0 -ℤ z = omega (arith, ints, h, k, same) in
    omega (arith, ints, h, k, back)

pub returns : goal.returns
returns c =
    let v = c.args.parts.now in
    let is = c.requires in
    same-parts _ _ _ _ _ _ _ _ _ _ _ _ _ _
    (omega (arith, ints)) (omega (arith, ints)) (omega (arith, ints))
    (counted v.fdp is.fdp is.fdp_most) (counted v.fly is.fly is.fly_most) (counted v.duties is.duties is.duties_most) (turned v.away is.away is.away_most)
