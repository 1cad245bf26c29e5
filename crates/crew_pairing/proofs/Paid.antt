-- The bounds of a duty's pay.
use Rattle.std.proofs.Common.{◌≤◌, ◌*◌, ℕ, ℤ, pos, negsuc, ◌-ℤ◌, ◌*ℤ◌, ◌≤ℤ◌, List, ◌∷◌, length, arith}
use Rattle.std.specs.Int.{int_max}
use Rattle.std.proofs.Math.Nat.{mul-le-mul_left}
use Rattle.std.proofs.lemmas.Int.{ints}
use Rattle.crew_flights.specs.Timetable.{Turns}
use Rattle.crew_rules.specs.Pay.{duty_pay}
use Rattle.crew_rules.specs.Settings.{IsChecked}
use Rattle.crew_rules.specs.declared.settings.Settings.{Settings}
use Rattle.crew_pairing.specs.Legality.{AllConnect, flight_time, release, report}
use Rattle.crew_pairing.specs.declared.leg.TimedLeg.{TimedLeg}
use Rattle.crew_pairing.proofs.Times.{AllSound, ends-later, flown-total}

rated-most : (rate n : ℕ) (z : ℤ) → pos 0 ≤ℤ z → z ≤ℤ pos n → (pos rate *ℤ z) ≤ℤ pos (rate * n)
rated-most rate n (pos m) h k =
    let l : m ≤ n = omega (arith, ints) in
    let p = mul-le-mul_left rate l in
    omega (arith, ints, p)
rated-most rate n (negsuc m) h k = absurd (omega (arith, ints))

greatest-between : (a b : ℤ) (c n : ℕ) → a ≤ℤ pos n → b ≤ℤ pos n → c ≤ n → (pos 0 ≤ℤ int_max (int_max a b) (pos c)) × (int_max (int_max a b) (pos c) ≤ℤ pos n)
greatest-between a b c n h i j = (grind (arith, ints), grind (arith, ints))

paid-between : (s : Settings) (elapsed fly : ℤ) → IsChecked s → pos 0 ≤ℤ elapsed → elapsed ≤ℤ pos 100_000_000 → pos 0 ≤ℤ fly → fly ≤ℤ pos 100_000_000
    → (pos 0 ≤ℤ duty_pay s elapsed fly) × (duty_pay s elapsed fly ≤ℤ pos 1_400_000_000)
paid-between s elapsed fly checked a b c d =
    let most = checked.duty_rig in
    let rig : (pos s.duty_rig *ℤ elapsed) ≤ℤ pos 1_400_000_000 = omega (arith, ints, rated-most s.duty_rig 100_000_000 elapsed a b, most) in
    let flown : (pos 14 *ℤ fly) ≤ℤ pos 1_400_000_000 = omega (arith, ints, d) in
    greatest-between (pos 14 *ℤ fly) (pos s.duty_rig *ℤ elapsed) s.duty_min 1_400_000_000 flown rig (omega (arith, checked.duty_min))

-- the pay of sound legs that connect
pub legs-paid : (s : Settings) (turns : Turns) (first : TimedLeg) (others : List TimedLeg) → IsChecked s → length others ≤ 7 → AllSound (first ∷ others) → AllConnect s turns first others
    → pos 15_000_000 ≤ℤ report s first → release s first others ≤ℤ pos 70_000_000
    → (pos 0 ≤ℤ duty_pay s (release s first others -ℤ report s first) (flight_time first others)) × (duty_pay s (release s first others -ℤ report s first) (flight_time first others) ≤ℤ pos 1_400_000_000)
legs-paid s turns first others checked few sound linked a b =
    let late = ends-later s turns first others sound linked in
    let flown = flown-total (first ∷ others) sound in
    paid-between s (release s first others -ℤ report s first) (flight_time first others) checked (omega (arith, ints, late)) (omega (arith, ints, a, b)) flown.0 (omega (arith, ints, flown.1, few))
