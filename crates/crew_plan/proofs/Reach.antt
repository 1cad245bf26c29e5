-- How far the amounts of a partial pairing of up to 240 hours reach.
use Rattle.std.proofs.Common.{◌≡◌, ◌≤◌, ◌+◌, ◌*◌, ◌^◌, ℕ, suc, Bool, true, ◌&&◌, ℤ, pos, ◌-ℤ◌, ◌*ℤ◌, List, [], ◌∷◌, length, sym, subst, arith}
use Rattle.std.specs.Prelude.{◌≤ℤ◌, int_le, negsuc}
use Rattle.std.specs.Int.{int_max}
use Rattle.std.specs.Ordering.{eq_by_cmp}
use Rattle.std.proofs.Math.IntN.{pos-*ℤ-negsuc}
use Rattle.std.proofs.Math.Nat.{mul-le-mul_left}
use Rattle.std.proofs.lemmas.Bool.{and_parts}
use Rattle.std.proofs.lemmas.Int.{ints}
use Rattle.crew_fronts.proofs.crew_answers_lemmas.Caps.{same-legal}
use Rattle.crew_fronts.proofs.crew_answers_lemmas.InRange.{checked-short}
use Rattle.crew_flights.specs.Codes.{code_cmp}
use Rattle.crew_flights.specs.Timetable.{IsBasePrice, IsSound, Timetable}
use Rattle.crew_fronts.specs.crew_history.LongPairings.{IsLongPartial}
use Rattle.crew_fronts.specs.crew_history.Limits.{keeps_total}
use Rattle.crew_pairing.proofs.Timetables.{flights-of-timetable}
use Rattle.crew_pairing.specs.Duties.{flights_of}
use Rattle.crew_pairing.specs.Events as Events
use Rattle.crew_pairing.specs.Legality.{total}
use Rattle.crew_pairing.specs.Pairings.{AllRested, IsDuty, last_duty, minutes_away}
use Rattle.crew_pairing.specs.Vectors.{prices, vector_of}
use Rattle.crew_pairing.specs.declared.duty.Duty.{Duty}
use Rattle.crew_resource.specs.Machinery.Sum.{LiesWithin}
use Rattle.crew_resource.specs.Members.{Each}
use Rattle.crew_rules.specs.Settings.{IsChecked}
use Rattle.crew_rules.specs.declared.settings.Settings.{Settings}
use Rattle.crew_fronts.specs.crew_solve.Machinery.Homes.{HasPay}
use Rattle.crew_fronts.proofs.crew_solve_lemmas.crew_vector_lemmas.LegalDuties.{legal-sound}

wider : (z : ℤ) (n m : ℕ) → LiesWithin n z → n ≤ m → LiesWithin m z
wider z n m h k = let l = h.least in let u = h.most in record { least = omega (arith, ints); most = omega (arith, ints) }

less-by : (n m : ℕ) (a b : ℤ) → LiesWithin n a → LiesWithin m b → LiesWithin (n + m) (a -ℤ b)
less-by n m a b h k =
    let l = h.least in let u = h.most in let o = k.least in let w = k.most in
    record { least = omega (arith, ints); most = omega (arith, ints) }

-- so many for each of so many minutes
product : (rate n : ℕ) (z : ℤ) → LiesWithin n z → LiesWithin (rate * n) (pos rate *ℤ z)
product rate n (pos m) h =
    let u = h.most in
    let l : m ≤ n = omega (arith, ints) in
    let p = mul-le-mul_left rate l in
    record { least = omega (arith, ints, p); most = omega (arith, ints, p) }
product rate n (negsuc m) h =
    let u = h.least in
    let l : suc m ≤ n = omega (arith, ints) in
    let p = mul-le-mul_left rate l in
    let k = pos-*ℤ-negsuc rate m in
    record { least = omega (arith, ints, p, k); most = omega (arith, ints, p, k) }

-- sums over many duties
total-within : (f : Duty → ℤ) (ds : List Duty) → Each (λ d. LiesWithin 8_000_000_000 (f d)) ds → LiesWithin (8_000_000_000 * length ds) (total f ds)
total-within f [] h = record { least = omega (arith, ints); most = omega (arith, ints) }
total-within f (d ∷ ds) h =
    let r = total-within f ds h.1 in
    let a = h.0.least in
    let b = h.0.most in
    let c = r.least in
    let e = r.most in
    record { least = omega (arith, ints); most = omega (arith, ints) }

each-as : {X : Type 0} (P Q : X → Type 0) (xs : List X) → ((x : X) → P x → Q x) → Each P xs → Each Q xs
each-as P Q [] f h = tt
each-as P Q (x ∷ xs) f h = (f x h.0, each-as P Q xs f h.1)

test-le : (a b : ℤ) → int_le a b ≡ true → a ≤ℤ b
test-le a b h = grind (arith, ints)

last-caps : (a b c d : Bool) → (a && (b && (c && d))) ≡ true → (c ≡ true) × (d ≡ true)
last-caps a b c d h = and_parts c d (and_parts b (c && d) (and_parts a (b && (c && d)) h).1).1

-- it ends after it begins
later : (s : Settings) (first : Duty) (others : List Duty) → Each Events.IsSound (first ∷ others) → AllRested s first others → pos 0 ≤ℤ ((last_duty first others).release -ℤ first.report)
later s first [] h r = h.0.elapsed
later s first (next ∷ others) h r =
    let rest = later s next others h.1 r.1 in
    let k = and_parts (eq_by_cmp code_cmp first.to next.from) (int_le (pos 600) (next.report -ℤ first.release) && int_le (next.report -ℤ first.release) (pos s.max_rest)) r.0 in
    let least = test-le (pos 600) (next.report -ℤ first.release) (and_parts (int_le (pos 600) (next.report -ℤ first.release)) (int_le (next.report -ℤ first.release) (pos s.max_rest)) k.1).0 in
    let own = h.0.elapsed in
    omega (arith, ints, rest, least, own)

between : (z : ℤ) (n : ℕ) → pos 0 ≤ℤ z → z ≤ℤ pos n → LiesWithin n z
between z n h k = record { least = omega (arith, ints); most = omega (arith, ints) }

greatest : (a b c : ℤ) (n : ℕ) → LiesWithin n a → LiesWithin n b → LiesWithin n c → LiesWithin n (int_max (int_max a b) c)
greatest a b c n h k m =
    let p = h.least in let q = h.most in let r = k.least in let t = k.most in let u = m.least in let v = m.most in
    record { least = grind (arith, ints); most = grind (arith, ints) }

left-over : (x q : ℤ) → x -ℤ (x -ℤ q) ≡ q
left-over x q = omega (arith, ints)

-- legal duties are sound
pub legal-sound-here : (s : Settings) (t : Timetable) → IsChecked s → IsSound t → (d : Duty) → IsDuty s (flights_of t) d → Events.IsSound d
legal-sound-here s t range sound d l = subst Events.IsSound (sym l.3)
    (legal-sound (record s { away_cap = 8_280 }) (flights_of t) l.0 l.1 (checked-short s range) (flights-of-timetable t sound) (same-legal s s.fdp_cap 8_280 (flights_of t) l.0 l.1 l.2))

module _ (s : Settings) (t : Timetable) (base : List ℕ) (price : ℤ) (range : IsChecked s) (sound : IsSound t) (based : IsBasePrice price) (first : Duty) (others : List Duty)
    (partial : IsLongPartial s (flights_of t) base first others) where
  abbrev Duties : List Duty
  Duties = first ∷ others

  each-sound : Each Events.IsSound Duties
  each-sound = each-as (IsDuty s (flights_of t)) Events.IsSound Duties (legal-sound-here s t range sound) partial.legal

  few : length Duties ≤ 12
  few =
      let k = last-caps (keeps_total (pos s.fdp_total) Duties) (int_le (total (λ d. d.fly) Duties) (pos s.fly_cap)) (int_le (pos (length Duties)) (pos s.max_duties)) (int_le (minutes_away Duties) (pos s.away_cap)) partial.capped in
      let most = test-le (pos (length Duties)) (pos s.max_duties) k.0 in
      let cap = range.max_duties_most in
      omega (arith, ints, most, cap)

  away-within : LiesWithin 14_400 (minutes_away Duties)
  away-within =
      let k = last-caps (keeps_total (pos s.fdp_total) Duties) (int_le (total (λ d. d.fly) Duties) (pos s.fly_cap)) (int_le (pos (length Duties)) (pos s.max_duties)) (int_le (minutes_away Duties) (pos s.away_cap)) partial.capped in
      let most = test-le (minutes_away Duties) (pos s.away_cap) k.1 in
      let cap = range.away_cap_most in
      between (minutes_away Duties) 14_400 (later s first others each-sound partial.rested) (omega (arith, ints, most, cap))

  sum-within : (f : Duty → ℤ) → ((d : Duty) → Events.IsSound d → LiesWithin 8_000_000_000 (f d)) → LiesWithin 96_000_000_000 (total f Duties)
  sum-within f each =
      let k = few in
      wider (total f Duties) (8_000_000_000 * length Duties) 96_000_000_000 (total-within f Duties (each-as Events.IsSound (λ d. LiesWithin 8_000_000_000 (f d)) Duties each each-sound)) (omega (arith, k))

  prices-within : LiesWithin 97_000_000_000 (prices price Duties)
  prices-within =
      let k = sum-within (λ d. d.price) (λ d h. record { least = omega (arith, ints, h.price); most = h.price_most }) in
      let l = k.least in
      let u = k.most in
      let o = based.least in
      let w = based.most in
      record { least = omega (arith, ints, l, o); most = omega (arith, ints, u, w) }

  -- a pairing's amounts fit
  pub vector-pay : HasPay s.trip_rig (vector_of s price Duties)
  vector-pay =
      let p = prices-within in
      let pay = sum-within (λ d. d.pay) (λ d h. record { least = omega (arith, ints, h.pay); most = omega (arith, ints, h.pay_most) }) in
      let rate = (checked-short s range).trip_rig in
      let points = (checked-short s range).guarantee in
      let n = few in
      let count = between (pos (length Duties)) 12 (omega (arith, ints)) (omega (arith, ints, n)) in
      let rig = wider _ (s.trip_rig * 14_400 + 97_000_000_000) (2 ^ 61) (less-by (s.trip_rig * 14_400) 97_000_000_000 _ _ (product s.trip_rig 14_400 (minutes_away Duties) away-within) p) (omega (arith, rate)) in
      let guarantee = wider _ (s.guarantee * 12 + 97_000_000_000) (2 ^ 61) (less-by (s.guarantee * 12) 97_000_000_000 _ _ (product s.guarantee 12 (pos (length Duties)) count) p) (omega (arith, points)) in
      let duty-pay = wider _ (96_000_000_000 + 97_000_000_000) (2 ^ 61) (less-by 96_000_000_000 97_000_000_000 _ _ pay p) (omega arith) in
      record {
        cost = greatest _ _ _ (2 ^ 61) duty-pay rig guarantee;
        rig = rig;
        prices = subst (LiesWithin (2 ^ 61)) (sym (left-over (pos s.trip_rig *ℤ minutes_away Duties) (prices price Duties))) (wider _ 97_000_000_000 (2 ^ 61) p (omega arith));
      }
