-- The marks of an anchored vector, and that they rise with it.
use Rattle.std.specs.Prelude.{◌≡◌, Bool, true, ◌&&◌, List, [], ◌∷◌, ℤ, pos, negsuc, ◌≤ℤ◌, int_le}
use Rattle.std.specs.Int.{int_max, int_min}
use Rattle.std.proofs.Common.{arith, refl}
use Rattle.std.proofs.lemmas.Bool.{and_parts}
use Rattle.std.proofs.lemmas.Int.{ints, clamps}
use Rattle.crew_pairing.specs.declared.vector.PairingVector.{PairingVector}
use Rattle.crew_pool.specs.Marks.{are_at_most}
use Rattle.crew_vector.specs.Dominance.{is_at_most}

-- the nearest number of 32 bits
abbrev pub narrowed : ℤ → ℤ
narrowed z = int_max (negsuc 2_147_483_647) (int_min z (pos 2_147_483_647))

-- the guarantee, the minutes of duty and of flight and those away, each as near as 32 bits come
abbrev pub marks_of : PairingVector → List ℤ
marks_of v =
    narrowed v.guarantee ∷ narrowed v.fdp ∷ narrowed v.fly ∷ narrowed v.away ∷ []

narrowed_rises : (x y : ℤ) → x ≤ℤ y → narrowed x ≤ℤ narrowed y
narrowed_rises x y h = omega (arith, ints, clamps)

part_rises : (x y : ℤ) → int_le x y ≡ true → int_le (narrowed x) (narrowed y) ≡ true
part_rises x y h =
    let g : narrowed x ≤ℤ narrowed y = narrowed_rises x y (grind (arith, ints)) in
    grind arith

also : {a b : Bool} → a ≡ true → b ≡ true → (a && b) ≡ true
also p q = rw (p, q)

-- of two vectors, one at most the other
pub marks_rise : (a b : PairingVector) → is_at_most a b ≡ true
    → are_at_most (marks_of a) (marks_of b) ≡ true
unfolding are_at_most
marks_rise a b h =
    let sums = and_parts _ _ h in
    let money = and_parts _ _ sums.0 in
    let rig = and_parts _ _ money.1 in
    let times = and_parts _ _ sums.1 in
    let duty = and_parts _ _ times.0 in
    let length = and_parts _ _ times.1 in
    also (also (also (also {a = true} refl (part_rises a.guarantee b.guarantee rig.1))
    (part_rises a.fdp b.fdp duty.0)) (part_rises a.fly b.fly duty.1))
    (part_rises a.away b.away length.1)
