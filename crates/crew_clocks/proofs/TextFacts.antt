-- A time has one text.
use Rattle.std.proofs.Common.{pos, ℤ, ◌≤ℤ◌, Ok, Result, nat_le, rules, ◌≡◌, ◌≤◌, ◌++◌, drop, ◌+◌, ◌-◌, ◌*◌, ◌/◌, ◌%◌, ℕ, List, [], ◌∷◌, Bool, true, false, Some, None, Option, length, get_or, refl, sym, ◌∙◌, ap, arith, ◌&&◌}
use Rattle.std.proofs.lemmas.Bool.Decides.{nat_tests}
use Rattle.std.proofs.Math.Seq.{drop-append_seam}
use Rattle.jiff_core.specs.Calendar.{IsCivilDate, day_count, days_from_civil, days_in_month, days_of_months, days_of_years}
use Rattle.jiff_core.specs.declared.civil.date.Date.{Date}
use Rattle.std.proofs.lemmas.Int.{by_lt_z}
use Rattle.crew_clocks.proofs.CivilFacts.{day-after_year, day-before_year, known-days}
use Rattle.crew_time.specs.Instant.{IsInYears}
use Rattle.jiff_core.proofs.DateLemmas.{epoch_day_injective}
use Rattle.jiff_core.proofs.SignedLemmas.{signed_arith}
use Rattle.crew_clocks.specs.Civil.{IsTextOf, is_civil, minutes_of, option_minute, parts_minute, text_minute, ◌>>=◌, form_of, has_marks, is_digit, two_of}
use Rattle.crew_clocks.specs.declared.civil.Parts.{Parts}
use Rattle.crew_clocks.specs.declared.fault.TimeFault.{TimeFault}
use Rattle.std.specs.Prelude.{IfOk, OnOk, OnErr, Err, is_ok, if◌then◌else◌}

-- two digits are those of their number
pub two_of-known : (a b n : ℕ) → two_of a b ≡ Some n → (a ≡ 48 + n / 10) × (b ≡ 48 + n % 10)
two_of-known a b n e = by (is_digit a && is_digit b) refl e
  where
    by : (t : Bool) → (is_digit a && is_digit b) ≡ t → two_of a b ≡ Some n → (a ≡ 48 + n / 10) × (b ≡ 48 + n % 10)
    by true same e =
        let h = rw same at e in
        let value : (a - 48) * 10 + (b - 48) ≡ n = cc in
        let bounds : (48 ≤ a) × (a ≤ 57) × (48 ≤ b) × (b ≤ 57) = grind (arith, nat_tests) in
        (omega arith, omega arith)
    by false same e = let h = rw same at e in cc

two_of-small : (a b n : ℕ) → two_of a b ≡ Some n → n ≤ 99
two_of-small a b n e = by (is_digit a && is_digit b) refl e
  where
    by : (t : Bool) → (is_digit a && is_digit b) ≡ t → two_of a b ≡ Some n → n ≤ 99
    by true same e =
        let h = rw same at e in
        let value : (a - 48) * 10 + (b - 48) ≡ n = cc in
        let bounds : (48 ≤ a) × (a ≤ 57) × (48 ≤ b) × (b ≤ 57) = grind (arith, nat_tests) in
        omega arith
    by false same e = let h = rw same at e in cc

-- six steps that all gave a number
abbrev steps : Option ℕ → Option ℕ → Option ℕ → Option ℕ → Option ℕ → Option ℕ → Option Parts
steps a b c d e f = do
  century ← a
  year ← b
  month ← c
  day ← d
  hour ← e
  minute ← f
  Some (record { year = century * 100 + year; month = month; day = day; hour = hour; minute = minute })

record Steps (a b c d e f : Option ℕ) (p : Parts) : Type 0 where
  century : ℕ
  year : ℕ
  month : ℕ
  day : ℕ
  hour : ℕ
  minute : ℕ
  is_a : a ≡ Some century
  is_b : b ≡ Some year
  is_c : c ≡ Some month
  is_d : d ≡ Some day
  is_e : e ≡ Some hour
  is_f : f ≡ Some minute
  whole : record { year = century * 100 + year; month = month; day = day; hour = hour; minute = minute } ≡ p

steps-known : (a b c d e f : Option ℕ) (p : Parts) → steps a b c d e f ≡ Some p → Steps a b c d e f p
steps-known None b c d e f p h = cc h
steps-known (Some a) None c d e f p h = cc h
steps-known (Some a) (Some b) None d e f p h = cc h
steps-known (Some a) (Some b) (Some c) None e f p h = cc h
steps-known (Some a) (Some b) (Some c) (Some d) None f p h = cc h
steps-known (Some a) (Some b) (Some c) (Some d) (Some e) None p h = cc h
steps-known (Some a) (Some b) (Some c) (Some d) (Some e) (Some f) p h =
    record { century = a; year = b; month = c; day = d; hour = e; minute = f; is_a = refl; is_b = refl; is_c = refl; is_d = refl; is_e = refl; is_f = refl; whole = cc }

-- the text of a time
abbrev pub text_of_parts : Parts → List ℕ
text_of_parts p =
    (48 + p.year / 1_000) ∷ (48 + p.year / 100 % 10) ∷ (48 + p.year / 10 % 10) ∷ (48 + p.year % 10) ∷ 45 ∷ (48 + p.month / 10) ∷ (48 + p.month % 10) ∷ 45
    ∷ (48 + p.day / 10) ∷ (48 + p.day % 10) ∷ 84 ∷ (48 + p.hour / 10) ∷ (48 + p.hour % 10) ∷ 58 ∷ (48 + p.minute / 10) ∷ (48 + p.minute % 10) ∷ []

-- a list of sixteen, written out
explode : (t : List ℕ) → length t ≡ 16
    → t ≡ get_or t 0 0 ∷ get_or t 1 0 ∷ get_or t 2 0 ∷ get_or t 3 0 ∷ get_or t 4 0 ∷ get_or t 5 0 ∷ get_or t 6 0 ∷ get_or t 7 0 ∷ get_or t 8 0 ∷ get_or t 9 0 ∷ get_or t 10 0 ∷ get_or t 11 0 ∷ get_or t 12 0 ∷ get_or t 13 0 ∷ get_or t 14 0 ∷ get_or t 15 0 ∷ []
explode [] h = absurd (omega arith)
explode (a0 ∷ []) h = absurd (omega arith)
explode (a0 ∷ a1 ∷ []) h = absurd (omega arith)
explode (a0 ∷ a1 ∷ a2 ∷ []) h = absurd (omega arith)
explode (a0 ∷ a1 ∷ a2 ∷ a3 ∷ []) h = absurd (omega arith)
explode (a0 ∷ a1 ∷ a2 ∷ a3 ∷ a4 ∷ []) h = absurd (omega arith)
explode (a0 ∷ a1 ∷ a2 ∷ a3 ∷ a4 ∷ a5 ∷ []) h = absurd (omega arith)
explode (a0 ∷ a1 ∷ a2 ∷ a3 ∷ a4 ∷ a5 ∷ a6 ∷ []) h = absurd (omega arith)
explode (a0 ∷ a1 ∷ a2 ∷ a3 ∷ a4 ∷ a5 ∷ a6 ∷ a7 ∷ []) h = absurd (omega arith)
explode (a0 ∷ a1 ∷ a2 ∷ a3 ∷ a4 ∷ a5 ∷ a6 ∷ a7 ∷ a8 ∷ []) h = absurd (omega arith)
explode (a0 ∷ a1 ∷ a2 ∷ a3 ∷ a4 ∷ a5 ∷ a6 ∷ a7 ∷ a8 ∷ a9 ∷ []) h = absurd (omega arith)
explode (a0 ∷ a1 ∷ a2 ∷ a3 ∷ a4 ∷ a5 ∷ a6 ∷ a7 ∷ a8 ∷ a9 ∷ a10 ∷ []) h = absurd (omega arith)
explode (a0 ∷ a1 ∷ a2 ∷ a3 ∷ a4 ∷ a5 ∷ a6 ∷ a7 ∷ a8 ∷ a9 ∷ a10 ∷ a11 ∷ []) h = absurd (omega arith)
explode (a0 ∷ a1 ∷ a2 ∷ a3 ∷ a4 ∷ a5 ∷ a6 ∷ a7 ∷ a8 ∷ a9 ∷ a10 ∷ a11 ∷ a12 ∷ []) h = absurd (omega arith)
explode (a0 ∷ a1 ∷ a2 ∷ a3 ∷ a4 ∷ a5 ∷ a6 ∷ a7 ∷ a8 ∷ a9 ∷ a10 ∷ a11 ∷ a12 ∷ a13 ∷ []) h = absurd (omega arith)
explode (a0 ∷ a1 ∷ a2 ∷ a3 ∷ a4 ∷ a5 ∷ a6 ∷ a7 ∷ a8 ∷ a9 ∷ a10 ∷ a11 ∷ a12 ∷ a13 ∷ a14 ∷ []) h = absurd (omega arith)
explode (a0 ∷ a1 ∷ a2 ∷ a3 ∷ a4 ∷ a5 ∷ a6 ∷ a7 ∷ a8 ∷ a9 ∷ a10 ∷ a11 ∷ a12 ∷ a13 ∷ a14 ∷ a15 ∷ []) h = refl
explode (a0 ∷ a1 ∷ a2 ∷ a3 ∷ a4 ∷ a5 ∷ a6 ∷ a7 ∷ a8 ∷ a9 ∷ a10 ∷ a11 ∷ a12 ∷ a13 ∷ a14 ∷ a15 ∷ b ∷ rest) h = absurd (omega arith)

-- sixteen bytes by their digits
same-text : (t0 t1 t2 t3 t4 t5 t6 t7 t8 t9 t10 t11 t12 t13 t14 t15 c y mo d h n : ℕ) → t0 ≡ 48 + c / 10 → t1 ≡ 48 + c % 10 → t2 ≡ 48 + y / 10 → t3 ≡ 48 + y % 10 → t4 ≡ 45 → t5 ≡ 48 + mo / 10 → t6 ≡ 48 + mo % 10 → t7 ≡ 45 → t8 ≡ 48 + d / 10 → t9 ≡ 48 + d % 10 → t10 ≡ 84 → t11 ≡ 48 + h / 10 → t12 ≡ 48 + h % 10 → t13 ≡ 58 → t14 ≡ 48 + n / 10 → t15 ≡ 48 + n % 10 → y ≤ 99
    → t0 ∷ t1 ∷ t2 ∷ t3 ∷ t4 ∷ t5 ∷ t6 ∷ t7 ∷ t8 ∷ t9 ∷ t10 ∷ t11 ∷ t12 ∷ t13 ∷ t14 ∷ t15 ∷ [] ≡ text_of_parts (record { year = c * 100 + y; month = mo; day = d; hour = h; minute = n })
same-text t0 t1 t2 t3 t4 t5 t6 t7 t8 t9 t10 t11 t12 t13 t14 t15 c y mo d h n e0 e1 e2 e3 e4 e5 e6 e7 e8 e9 e10 e11 e12 e13 e14 e15 small =
    let y0 : c / 10 ≡ (c * 100 + y) / 1_000 = omega arith in
    let y1 : c % 10 ≡ (c * 100 + y) / 100 % 10 = omega arith in
    let y2 : y / 10 ≡ (c * 100 + y) / 10 % 10 = omega arith in
    let y3 : y % 10 ≡ (c * 100 + y) % 10 = omega arith in
    rw (e0, e1, e2, e3, e4, e5, e6, e7, e8, e9, e10, e11, e12, e13, e14, e15, y0, y1, y2, y3) refl

pub form-text : (t : List ℕ) (p : Parts) → form_of t ≡ Some p → t ≡ text_of_parts p
unfolding form_of
form-text t p e = by (has_marks t) refl e
  where
    by : (b : Bool) → has_marks t ≡ b → form_of t ≡ Some p → t ≡ text_of_parts p
    by false same e = let h = rw same at e in cc
    by true same e =
        let m : (length t ≡ 16) × (get_or t 4 0 ≡ 45) × (get_or t 7 0 ≡ 45) × (get_or t 10 0 ≡ 84) × (get_or t 13 0 ≡ 58) = grind (arith, nat_tests) in
        let k = steps-known (two_of (get_or t 0 0) (get_or t 1 0)) (two_of (get_or t 2 0) (get_or t 3 0)) (two_of (get_or t 5 0) (get_or t 6 0))
        (two_of (get_or t 8 0) (get_or t 9 0)) (two_of (get_or t 11 0) (get_or t 12 0)) (two_of (get_or t 14 0) (get_or t 15 0)) p (rw same at e) in
        let kc = two_of-known (get_or t 0 0) (get_or t 1 0) k.century k.is_a in
        let ky = two_of-known (get_or t 2 0) (get_or t 3 0) k.year k.is_b in
        let kmo = two_of-known (get_or t 5 0) (get_or t 6 0) k.month k.is_c in
        let kd = two_of-known (get_or t 8 0) (get_or t 9 0) k.day k.is_d in
        let kh = two_of-known (get_or t 11 0) (get_or t 12 0) k.hour k.is_e in
        let kn = two_of-known (get_or t 14 0) (get_or t 15 0) k.minute k.is_f in
        let small = two_of-small (get_or t 2 0) (get_or t 3 0) k.year k.is_b in
        explode t m.0 ∙ same-text (get_or t 0 0) (get_or t 1 0) (get_or t 2 0) (get_or t 3 0) (get_or t 4 0) (get_or t 5 0) (get_or t 6 0) (get_or t 7 0) (get_or t 8 0) (get_or t 9 0) (get_or t 10 0) (get_or t 11 0) (get_or t 12 0) (get_or t 13 0) (get_or t 14 0) (get_or t 15 0) k.century k.year k.month k.day k.hour k.minute
        kc.0 kc.1 ky.0 ky.1 m.1 kmo.0 kmo.1 m.2 kd.0 kd.1 m.3 kh.0 kh.1 m.4 kn.0 kn.1 small ∙ ap text_of_parts k.whole

-- a time has one text
pub text-unique : (a b : List ℕ) (p : Parts) → form_of a ≡ Some p → form_of b ≡ Some p → a ≡ b
text-unique a b p h k = form-text a p h ∙ sym (form-text b p k)

-- the tests of a time, as facts
civil-facts : (p : Parts) → is_civil p ≡ true → (1 ≤ p.month) × (p.month ≤ 12) × (1 ≤ p.day) × (p.day ≤ days_in_month (pos p.year) p.month) × (p.hour ≤ 23) × (p.minute ≤ 59)
civil-facts p h = grind (arith, nat_tests)

-- the date of a time
date-of : (p : Parts) → is_civil p ≡ true → p.year ≤ 9_999 → Date
date-of p h small = let f = civil-facts p h in record {
  year = pos p.year;
  month = p.month;
  day = p.day;
  year_in = (omega (arith, signed_arith), omega (arith, signed_arith));
  month_in = (f.0, f.1);
  day_in = (f.2, f.3);
}

-- two times of one minute are the same
times-same : (p q : Parts) → is_civil p ≡ true → is_civil q ≡ true → p.year ≤ 9_999 → q.year ≤ 9_999 → minutes_of p ≡ minutes_of q
    → (pos p.year ≡ pos q.year) × (p.month ≡ q.month) × (p.day ≡ q.day) × (p.hour ≡ q.hour) × (p.minute ≡ q.minute)
unfolding date-of
times-same p q h k small also e =
    let f = civil-facts p h in
    let g = civil-facts q k in
    let days : days_from_civil (pos p.year) p.month p.day ≡ days_from_civil (pos q.year) q.month q.day = omega (arith, signed_arith) in
    let same = epoch_day_injective (date-of p h small) (date-of q k also) days in
    let clock : p.hour * 60 + p.minute ≡ q.hour * 60 + q.minute = omega (arith, signed_arith) in
    (same.0, same.1, same.2, omega arith, omega arith)

form-year : (t : List ℕ) (p : Parts) → form_of t ≡ Some p → p.year ≤ 9_999
unfolding form_of
form-year t p e = by (has_marks t) refl e
  where
    by : (b : Bool) → has_marks t ≡ b → form_of t ≡ Some p → p.year ≤ 9_999
    by false same e = let h = rw same at e in cc
    by true same e =
        let k = steps-known (two_of (get_or t 0 0) (get_or t 1 0)) (two_of (get_or t 2 0) (get_or t 3 0)) (two_of (get_or t 5 0) (get_or t 6 0))
        (two_of (get_or t 8 0) (get_or t 9 0)) (two_of (get_or t 11 0) (get_or t 12 0)) (two_of (get_or t 14 0) (get_or t 15 0)) p (rw same at e) in
        let high = two_of-small (get_or t 0 0) (get_or t 1 0) k.century k.is_a in
        let low = two_of-small (get_or t 2 0) (get_or t 3 0) k.year k.is_b in
        let year : k.century * 100 + k.year ≡ p.year = ap (λ (q : Parts). q.year) k.whole in
        omega arith

-- a text that was read is the one that is written of its minute
minute-known : (p : Parts) (m : ℤ) → parts_minute p ≡ Ok m → (is_civil p ≡ true) × (minutes_of p ≡ m)
minute-known p m e = by (is_civil p) refl (nat_le 2_000 p.year && nat_le p.year 2_099) refl e
  where
    by : (a : Bool) → is_civil p ≡ a → (b : Bool) → (nat_le 2_000 p.year && nat_le p.year 2_099) ≡ b → parts_minute p ≡ Ok m → (is_civil p ≡ true) × (minutes_of p ≡ m)
    by true s true r e = let h = rw (s, r) at e in (s, cc)
    by true s false r e = let h = rw (s, r) at e in cc
    by false s b r e = let h = rw s at e in cc

made : ℕ → ℕ → ℕ → ℕ → ℕ → Parts
made y m d h n = record { year = y; month = m; day = d; hour = h; minute = n }

made-same : (y y2 m m2 d d2 h h2 n n2 : ℕ) → y ≡ y2 → m ≡ m2 → d ≡ d2 → h ≡ h2 → n ≡ n2 → made y m d h n ≡ made y2 m2 d2 h2 n2
made-same y y2 m m2 d d2 h h2 n n2 a b c e f = rw (a, b, c, e, f) refl

parts-same : (p q : Parts) → pos p.year ≡ pos q.year → p.month ≡ q.month → p.day ≡ q.day → p.hour ≡ q.hour → p.minute ≡ q.minute → p ≡ q
unfolding made
parts-same p q y m d h n =
    let year : p.year ≡ q.year = cc in
    made-same p.year q.year p.month q.month p.day q.day p.hour q.hour p.minute q.minute year m d h n

pub read-write : (t u : List ℕ) (m : ℤ) → text_minute t ≡ Ok m → IsTextOf m u → u ≡ t
read-write t u m e w = by (form_of t) refl e
  where
    by : (o : Option Parts) → form_of t ≡ o → option_minute o ≡ Ok m → u ≡ t
    by None f h = cc h
    by (Some p) f h =
        let known = minute-known p m h in
        let same = times-same w.0 p w.2 known.0 (form-year u w.0 w.1) (form-year t p f) (w.3 ∙ sym known.1) in
        let parts = parts-same w.0 p same.0 same.1 same.2 same.3 same.4 in
        text-unique u t p (w.1 ∙ ap (λ (q : Parts). Some q) parts) f

known-2000 : (days_from_civil (pos 2_000) 1 1 ≡ pos 10_957) × (days_from_civil (pos 2_099) 12 31 ≡ pos 47_481)
unfolding days_from_civil day_count days_of_years days_of_months
known-2000 = (refl, refl)

year-in : (p : Parts) (h : is_civil p ≡ true) (s : p.year ≤ 9_999) → (pos 10_957 ≤ℤ days_from_civil (pos p.year) p.month p.day) × (days_from_civil (pos p.year) p.month p.day ≤ℤ pos 47_481) → (2_000 ≤ p.year) × (p.year ≤ 2_099)
unfolding date-of
year-in p h s d =
    let last : IsCivilDate (pos 2_099) 12 31 = search rules in (
      by_lt_z (pos p.year) (pos 2_000) (λ lt. absurd (omega (arith, signed_arith, day-before_year (date-of p h s) (pos 2_000) lt, known-2000, d))) (λ ge. omega (arith, signed_arith)),
      by_lt_z (pos 2_099) (pos p.year) (λ lt. absurd (omega (arith, signed_arith, day-after_year (date-of p h s) (pos 2_099) last lt, known-2000, d))) (λ ge. omega (arith, signed_arith)),
    )

-- the days of the years 2000 to 2099
days-in : (p : Parts) (h : is_civil p ≡ true) (s : p.year ≤ 9_999) → 2_000 ≤ p.year → p.year ≤ 2_099 → (pos 10_957 ≤ℤ days_from_civil (pos p.year) p.month p.day) × (days_from_civil (pos p.year) p.month p.day ≤ℤ pos 47_481)
unfolding date-of
days-in p h s low high =
    let last : IsCivilDate (pos 1_999) 12 31 = search rules in
    let below = day-before_year (date-of p h s) (pos 2_100) (omega (arith, signed_arith)) in
    let above = day-after_year (date-of p h s) (pos 1_999) last (omega (arith, signed_arith)) in
    (omega (arith, signed_arith, above, known-days), omega (arith, signed_arith, below, known-days))

-- a text that is written of a minute of the years 2000 to 2099 reads as it
pub write-read : (t : List ℕ) (m : ℤ) → IsTextOf m t → IsInYears m → text_minute t ≡ Ok m
write-read t m w years =
    let p = w.0 in
    let f = civil-facts p w.2 in
    let date = date-of p w.2 (form-year t p w.1) in
    let bounds = year-in p w.2 (form-year t p w.1) (omega (arith, signed_arith, w.3, years.from, years.to)) in
    let test : (nat_le 2_000 p.year && nat_le p.year 2_099) ≡ true = grind (arith, nat_tests) in
    rw (w.1, w.2, test) (ap (λ (z : ℤ). Ok z) w.3)

-- a time that is an instant is of those years
parts-years : (p : Parts) (m : ℤ) → p.year ≤ 9_999 → parts_minute p ≡ Ok m → IsInYears m
parts-years p m s e = by (is_civil p) refl (nat_le 2_000 p.year && nat_le p.year 2_099) refl e
  where
    by : (a : Bool) → is_civil p ≡ a → (b : Bool) → (nat_le 2_000 p.year && nat_le p.year 2_099) ≡ b → parts_minute p ≡ Ok m → IsInYears m
    by true h true r e =
        let known = minute-known p m e in
        let years : (2_000 ≤ p.year) × (p.year ≤ 2_099) = grind (arith, nat_tests) in
        let f = civil-facts p h in
        let days = days-in p h s years.0 years.1 in
        record { from = omega (arith, signed_arith, known.1, days, f); to = omega (arith, signed_arith, known.1, days, f) }
    by true h false r e = let k = rw (h, r) at e in cc
    by false h b r e = let k = rw h at e in cc

-- what is read is of those years
pub read-years : (r : Result ℤ TimeFault) (p : Parts) → p.year ≤ 9_999 → r ≡ parts_minute p → IfOk r IsInYears
read-years (Ok m) p s e = parts-years p m s (sym e)
read-years (Err fault) p s e = tt

-- the two laws, on what a vector holds before and after a text is appended
pub appended : {E : Type 0} (r : Result (Unit {0}) E) (before after t : List ℕ) (m : ℤ) → after ≡ (if is_ok r then before ++ t else before) → IsTextOf m t
    → OnOk r ((text : List ℕ) × (after ≡ before ++ text) × IsTextOf m text)
appended (Err e) before after t m h w = tt
appended (Ok x) before after t m h w = (t, h, w)

pub left : {E : Type 0} (r : Result (Unit {0}) E) (before after t : List ℕ) → after ≡ (if is_ok r then before ++ t else before) → OnErr r (after ≡ before)
left (Err e) before after t h = h
left (Ok x) before after t h = tt

pub reads-back : {E : Type 0} (r : Result (Unit {0}) E) (before after t : List ℕ) (m : ℤ) → after ≡ (if is_ok r then before ++ t else before) → IsTextOf m t
    → OnOk r (IsInYears m → text_minute (drop (length before) after) ≡ Ok m)
reads-back (Err e) before after t m h w = tt
reads-back (Ok x) before after t m h w = λ years.
    let same : drop (length before) after ≡ t = ap (drop (length before)) h ∙ drop-append_seam before t in
    ap text_minute same ∙ write-read t m w years

pub only-text : {E : Type 0} (r : Result (Unit {0}) E) (before after t : List ℕ) (m : ℤ) → after ≡ (if is_ok r then before ++ t else before) → IsTextOf m t
    → OnOk r ((other : List ℕ) → text_minute other ≡ Ok m → after ≡ before ++ other)
only-text (Err e) before after t m h w = tt
only-text (Ok x) before after t m h w = λ other e. h ∙ ap (λ (u : List ℕ). before ++ u) (read-write other t m e w)
