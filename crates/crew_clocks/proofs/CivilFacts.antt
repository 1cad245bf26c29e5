-- Days and years, and the digits of a text.
use Rattle.std.proofs.Common.{◌≡◌, ◌≤◌, ◌+◌, ◌-◌, ◌*◌, ℕ, [], ◌∷◌, true, Some, refl, arith, rules, ℤ, pos, ◌<ℤ◌, ◌≤ℤ◌}
use Rattle.std.proofs.lemmas.Bool.Decides.{nat_tests}
use Rattle.std.proofs.lemmas.Int.{by_lt_z}
use Rattle.jiff_core.specs.Calendar.{IsBetween, IsCivilDate, day_count, days_from_civil, days_of_years, days_of_months}
use Rattle.jiff_core.specs.Date.{epoch_day}
use Rattle.jiff_core.specs.declared.civil.date.Date.{Date}
use Rattle.jiff_core.proofs.CalendarLemmas.{day_count-lt_year, days_from_civil-day_count}
use Rattle.jiff_core.proofs.DateLemmas.{civil}
use Rattle.jiff_core.proofs.SignedLemmas.{signed_arith}
use Rattle.crew_clocks.specs.Civil.{form_of, is_digit, two_of}

-- the days on which the years begin and end that matter
pub known-days : (days_from_civil (pos 1_999) 1 1 ≡ pos 10_592) × (days_from_civil (pos 1_999) 12 31 ≡ pos 10_956) × (days_from_civil (pos 2_100) 1 1 ≡ pos 47_482) × (days_from_civil (pos 2_100) 12 31 ≡ pos 47_846)
unfolding days_from_civil day_count days_of_years days_of_months
known-days = (refl, refl, refl, refl)

-- a date of an earlier year is before the year begins
pub day-before_year : (d : Date) (y : ℤ) → d.year <ℤ y → epoch_day d <ℤ days_from_civil y 1 1
day-before_year d y h =
    let count = day_count-lt_year d.year d.month d.day y 1 1 (civil d) (omega arith) h in
    omega (arith, signed_arith, count, days_from_civil-day_count d.year d.month d.day, days_from_civil-day_count y 1 1)

-- a date of a later year is after the year's end
pub day-after_year : (d : Date) (y : ℤ) → IsCivilDate y 12 31 → y <ℤ d.year → days_from_civil y 12 31 <ℤ epoch_day d
day-after_year d y c h =
    let one : 1 ≤ d.day = d.day_in.0 in
    let count = day_count-lt_year y 12 31 d.year d.month d.day c one h in
    omega (arith, signed_arith, count, days_from_civil-day_count d.year d.month d.day, days_from_civil-day_count y 12 31)

-- two digits, read back
pub two_of-digits : (a b : ℕ) → a ≤ 9 → b ≤ 9 → two_of (48 + a) (48 + b) ≡ Some (a * 10 + b)
two_of-digits a b h k =
    let first : is_digit (48 + a) ≡ true = grind (arith, nat_tests) in
    let second : is_digit (48 + b) ≡ true = grind (arith, nat_tests) in
    let tens : 48 + a - 48 ≡ a = omega arith in
    let ones : 48 + b - 48 ≡ b = omega arith in
    rw (first, second, tens, ones) refl

-- the text of four digits and pairs of two
pub form_of-digits : (y0 y1 y2 y3 m0 m1 d0 d1 h0 h1 n0 n1 : ℕ) → y0 ≤ 9 → y1 ≤ 9 → y2 ≤ 9 → y3 ≤ 9 → m0 ≤ 9 → m1 ≤ 9 → d0 ≤ 9 → d1 ≤ 9 → h0 ≤ 9 → h1 ≤ 9 → n0 ≤ 9 → n1 ≤ 9
    → form_of ((48 + y0) ∷ (48 + y1) ∷ (48 + y2) ∷ (48 + y3) ∷ 45 ∷ (48 + m0) ∷ (48 + m1) ∷ 45 ∷ (48 + d0) ∷ (48 + d1) ∷ 84 ∷ (48 + h0) ∷ (48 + h1) ∷ 58 ∷ (48 + n0) ∷ (48 + n1) ∷ [])
    ≡ Some (record { year = (y0 * 10 + y1) * 100 + (y2 * 10 + y3); month = m0 * 10 + m1; day = d0 * 10 + d1; hour = h0 * 10 + h1; minute = n0 * 10 + n1 })
unfolding form_of
form_of-digits y0 y1 y2 y3 m0 m1 d0 d1 h0 h1 n0 n1 a b c d e f g h i j k l =
    rw (two_of-digits y0 y1 a b, two_of-digits y2 y3 c d, two_of-digits m0 m1 e f, two_of-digits d0 d1 g h, two_of-digits h0 h1 i j, two_of-digits n0 n1 k l) refl

-- the year of a date in the years of instants
pub year-known : (d : Date) → IsBetween (pos 10_956) (pos 47_482) (epoch_day d) → (pos 1_999 ≤ℤ d.year) × (d.year ≤ℤ pos 2_100)
year-known d h = (by_lt_z d.year (pos 1_999) (λ lt. absurd (early lt)) (λ le. le), by_lt_z (pos 2_100) d.year (λ lt. absurd (late lt)) (λ le. le))
  where
    last : IsCivilDate (pos 2_100) 12 31
    last = search rules

    early : d.year <ℤ pos 1_999 → ⊥
    early lt = omega (arith, signed_arith, day-before_year d (pos 1_999) lt, known-days, h)

    late : pos 2_100 <ℤ d.year → ⊥
    late lt = omega (arith, signed_arith, day-after_year d (pos 2_100) last lt, known-days, h)
