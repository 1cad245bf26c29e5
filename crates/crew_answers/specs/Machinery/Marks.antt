-- The sixteen marks of a value, and that they rise with it.
use Rattle.std.specs.Prelude.{◌≡◌, true, ◌&&◌, List, [], ◌∷◌, ℤ, pos, negsuc, ◌-ℤ◌, ◌≤ℤ◌, int_le}
use Rattle.std.specs.Int.{int_max, int_min, saturate_signed, w32}
use Rattle.std.proofs.Common.{arith}
use Rattle.std.proofs.lemmas.Bool.{and_parts}
use Rattle.std.proofs.lemmas.Int.{ints, clamps}
use Rattle.crew_vector.specs.Dominance.{is_at_most}
use Rattle.crew_forgetful.specs.Marks.{AreAtMost}
use Rattle.crew_history.specs.Histories.{minutes_after}
use Rattle.crew_history.specs.HistoryValues.{periods_of, history_at_most}
use Rattle.crew_history.specs.declared.history.History.{History}
use Rattle.crew_history.proofs.FixedHistories.{at_most_is}
use Rattle.crew_long.specs.Recents.{recent_at_most}
use Rattle.crew_long.specs.RestEnds.{rest_end_at_most}
use Rattle.crew_answers.specs.declared.value.LongValue.{LongValue}

-- the nearest number of 32 bits
abbrev pub narrowed : ℤ → ℤ
narrowed z = int_max (negsuc 2_147_483_647) (int_min z (pos 2_147_483_647))

-- the same of the number that is as far on the other side of -1/2
abbrev pub turned : ℤ → ℤ
turned z = narrowed (negsuc 0 -ℤ z)

-- the duty minutes after the instant that lies so many minutes before a moment
abbrev pub minutes_since : History → ℤ → ℤ → ℤ
minutes_since h moment back =
    narrowed (minutes_after (periods_of h) (saturate_signed w32 (moment -ℤ back)))

-- the seven sums; the end of the last long rest, the later the lesser; and the duty minutes from
-- each of eight days on, the first of which begins at the moment
abbrev pub marks_of : LongValue → ℤ → List ℤ
marks_of v moment =
    narrowed v.sums.duty_pay ∷ narrowed v.sums.trip_rig ∷ narrowed v.sums.guarantee
    ∷ narrowed v.sums.fdp ∷ narrowed v.sums.fly ∷ narrowed v.sums.duties ∷ narrowed v.sums.away
    ∷ turned v.rest_end.minute
    ∷ minutes_since v.recent.history moment (pos 0)
    ∷ minutes_since v.recent.history moment (pos 1_440)
    ∷ minutes_since v.recent.history moment (pos 2_880)
    ∷ minutes_since v.recent.history moment (pos 4_320)
    ∷ minutes_since v.recent.history moment (pos 5_760)
    ∷ minutes_since v.recent.history moment (pos 7_200)
    ∷ minutes_since v.recent.history moment (pos 8_640)
    ∷ minutes_since v.recent.history moment (pos 10_080) ∷ []

narrowed_rises : (x y : ℤ) → x ≤ℤ y → narrowed x ≤ℤ narrowed y
narrowed_rises x y h = omega (arith, ints, clamps)

sum_rises : (x y : ℤ) → int_le x y ≡ true → narrowed x ≤ℤ narrowed y
sum_rises x y h = narrowed_rises x y (grind (arith, ints))

turned_rises : (x y : ℤ) → int_le y x ≡ true → turned x ≤ℤ turned y
turned_rises x y h = narrowed_rises (negsuc 0 -ℤ x) (negsuc 0 -ℤ y) (grind (arith, ints))

minutes_rise : (h k : History) (moment back : ℤ) → history_at_most h k ≡ true
    → minutes_since h moment back ≤ℤ minutes_since k moment back
minutes_rise h k moment back e =
    let t = saturate_signed w32 (moment -ℤ back) in
    narrowed_rises (minutes_after (periods_of h) t) (minutes_after (periods_of k) t)
    (at_most_is h k e t)

also : {P Q : Type 0} → P → Q → P × Q
also h k = (h, k)

-- of two values, one at most the other
pub marks_rise : (moment : ℤ) (a b : LongValue)
    → (is_at_most a.sums b.sums &&
    (rest_end_at_most a.rest_end b.rest_end && recent_at_most a.recent b.recent)) ≡ true
    → AreAtMost (marks_of a moment) (marks_of b moment)
marks_rise moment a b h =
    let sides = and_parts _ _ h in
    let sums = and_parts _ _ sides.0 in
    let money = and_parts _ _ sums.0 in
    let rig = and_parts _ _ money.1 in
    let times = and_parts _ _ sums.1 in
    let duty = and_parts _ _ times.0 in
    let length = and_parts _ _ times.1 in
    let past = and_parts _ _ sides.1 in
    let recent = (and_parts _ _ past.1).1 in
    let since = λ (back : ℤ). minutes_rise a.recent.history b.recent.history moment back recent in
    also (sum_rises a.sums.duty_pay b.sums.duty_pay money.0)
    (also (sum_rises a.sums.trip_rig b.sums.trip_rig rig.0)
    (also (sum_rises a.sums.guarantee b.sums.guarantee rig.1)
    (also (sum_rises a.sums.fdp b.sums.fdp duty.0) (also (sum_rises a.sums.fly b.sums.fly duty.1)
    (also (sum_rises a.sums.duties b.sums.duties length.0)
    (also (sum_rises a.sums.away b.sums.away length.1)
    (also (turned_rises a.rest_end.minute b.rest_end.minute past.0)
    (also (since (pos 0)) (also (since (pos 1_440)) (also (since (pos 2_880))
    (also (since (pos 4_320)) (also (since (pos 5_760)) (also (since (pos 7_200))
    (also (since (pos 8_640)) (also (since (pos 10_080)) tt)))))))))))))))
