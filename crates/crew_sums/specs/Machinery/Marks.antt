-- The sixteen marks of seven sums, and that they rise with them.
use Rattle.std.specs.Prelude.{◌≡◌, true, List, [], ◌∷◌, ℤ, pos, negsuc, ◌≤ℤ◌, int_le}
use Rattle.std.specs.Int.{int_max, int_min}
use Rattle.std.proofs.Common.{arith}
use Rattle.std.proofs.lemmas.Bool.{and_parts}
use Rattle.std.proofs.lemmas.Int.{ints, clamps}
use Rattle.crew_forgetful.specs.Marks.{AreAtMost}
use Rattle.crew_pairing.specs.declared.vector.PairingVector.{PairingVector}
use Rattle.crew_vector.specs.Dominance.{is_at_most}

-- the nearest number of 32 bits
abbrev pub narrowed : ℤ → ℤ
narrowed z = int_max (negsuc 2_147_483_647) (int_min z (pos 2_147_483_647))

-- marks that tell nothing
abbrev pub blank : List ℤ
blank = pos 0 ∷ pos 0 ∷ pos 0 ∷ pos 0 ∷ pos 0 ∷ pos 0 ∷ pos 0 ∷ pos 0 ∷ pos 0 ∷ []

-- each of the seven sums, those that tell the most values apart first
abbrev pub marks_of : PairingVector → List ℤ
marks_of v =
    narrowed v.guarantee ∷ narrowed v.fdp ∷ narrowed v.fly ∷ narrowed v.away ∷ narrowed v.duty_pay
    ∷ narrowed v.trip_rig ∷ narrowed v.duties ∷ blank

narrowed_rises : (x y : ℤ) → x ≤ℤ y → narrowed x ≤ℤ narrowed y
narrowed_rises x y h = omega (arith, ints, clamps)

sum_rises : (x y : ℤ) → int_le x y ≡ true → narrowed x ≤ℤ narrowed y
sum_rises x y h = narrowed_rises x y (grind (arith, ints))

still : pos 0 ≤ℤ pos 0
still = omega (arith, ints)

-- of two values, one at most the other
pub marks_rise : (a b : PairingVector) → is_at_most a b ≡ true → AreAtMost (marks_of a) (marks_of b)
marks_rise a b h =
    let sums = and_parts _ _ h in
    let money = and_parts _ _ sums.0 in
    let rig = and_parts _ _ money.1 in
    let times = and_parts _ _ sums.1 in
    let duty = and_parts _ _ times.0 in
    let length = and_parts _ _ times.1 in
    let none : AreAtMost blank blank = (still, (still, (still, (still, (still, (still, (still, (still, (still, tt))))))))) in (
      sum_rises a.guarantee b.guarantee rig.1,
      (
        sum_rises a.fdp b.fdp duty.0,
        (
          sum_rises a.fly b.fly duty.1,
          (
            sum_rises a.away b.away length.1,
            (
              sum_rises a.duty_pay b.duty_pay money.0,
              (sum_rises a.trip_rig b.trip_rig rig.0, (sum_rises a.duties b.duties length.0, none)),
            ),
          ),
        ),
      ),
    )
