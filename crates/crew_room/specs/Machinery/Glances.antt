-- Four marks of a value of pairings of up to 240 hours, and that they rise with it.
use Rattle.std.specs.Prelude.{◌≡◌, Bool, true, ◌&&◌, List, [], ◌∷◌, ℤ, pos, negsuc, ◌≤ℤ◌, int_le}
use Rattle.std.specs.Int.{int_max, int_min}
use Rattle.std.proofs.Common.{arith, refl}
use Rattle.std.proofs.lemmas.Bool.{and_parts}
use Rattle.std.proofs.lemmas.Int.{ints, clamps}
use Rattle.crew_answers.specs.declared.value.LongValue.{LongValue}
use Rattle.crew_long.specs.Recents.{recent_at_most}
use Rattle.crew_long.specs.RestEnds.{rest_end_at_most}
use Rattle.crew_pool.specs.Marks.{are_at_most}
use Rattle.crew_vector.specs.Dominance.{is_at_most}

-- the nearest number of 32 bits
abbrev pub narrowed : ℤ → ℤ
narrowed z = int_max (negsuc 2_147_483_647) (int_min z (pos 2_147_483_647))

-- the guarantee, the minutes of duty and of flight and those away, each as near as 32 bits come
abbrev pub glance_of : LongValue → List ℤ
glance_of v =
    narrowed v.sums.guarantee ∷ narrowed v.sums.fdp ∷ narrowed v.sums.fly ∷ narrowed v.sums.away
    ∷ []

narrowed_rises : (x y : ℤ) → x ≤ℤ y → narrowed x ≤ℤ narrowed y
narrowed_rises x y h = omega (arith, ints, clamps)

part_rises : (x y : ℤ) → int_le x y ≡ true → int_le (narrowed x) (narrowed y) ≡ true
part_rises x y h =
    let g : narrowed x ≤ℤ narrowed y = narrowed_rises x y (grind (arith, ints)) in
    grind arith

also : {a b : Bool} → a ≡ true → b ≡ true → (a && b) ≡ true
also p q = rw (p, q)

-- of two values, one at most the other
pub glances_rise : (a b : LongValue)
    → (is_at_most a.sums b.sums &&
    (rest_end_at_most a.rest_end b.rest_end && recent_at_most a.recent b.recent)) ≡ true
    → are_at_most (glance_of a) (glance_of b) ≡ true
unfolding are_at_most
glances_rise a b h =
    let sides = and_parts _ _ h in
    let sums = and_parts _ _ sides.0 in
    let money = and_parts _ _ sums.0 in
    let rig = and_parts _ _ money.1 in
    let times = and_parts _ _ sums.1 in
    let duty = and_parts _ _ times.0 in
    let length = and_parts _ _ times.1 in
    also (also (also (also {a = true} refl (part_rises a.sums.guarantee b.sums.guarantee rig.1))
    (part_rises a.sums.fdp b.sums.fdp duty.0)) (part_rises a.sums.fly b.sums.fly duty.1))
    (part_rises a.sums.away b.sums.away length.1)
