-- Each legal duty over sound flights is sound.
use Rattle.std.proofs.Common.{◌≡◌, ℕ, zero, suc, ◌*◌, ◌≤◌, Bool, true, false, List, [], ◌∷◌, length, ℤ, pos, negsuc, neg_ℤ, ◌-ℤ◌, ◌*ℤ◌, ◌≤ℤ◌, nat_le, refl, sym, subst, arith, if◌then◌else◌}
use Rattle.std.specs.Prelude.{slice_index, min, ◌-◌}
use Rattle.std.specs.Int.{int_max}
use Rattle.std.specs.List.{list_all}
use Rattle.std.proofs.lemmas.Bool.{and_parts}
use Rattle.std.proofs.lemmas.Bool.Decides.{nat_tests}
use Rattle.std.proofs.lemmas.Int.{ints}
use Rattle.crew_flights.specs.Timetable.{IsSound, Timetable}
use Rattle.crew_rules.specs.Pay.{duty_pay}
use Rattle.crew_rules.specs.Settings.{IsChecked}
use Rattle.crew_rules.specs.Tables.{Row, in_force, rows_a, rows_b, table_a, table_b}
use Rattle.crew_rules.specs.declared.settings.Settings.{Settings}
use Rattle.crew_pairing.specs.Duties.{AreDuties, flights_of}
use Rattle.crew_pairing.specs.Events as Events
use Rattle.crew_pairing.specs.Flights.{Flights}
use Rattle.crew_pairing.specs.Legality.{IsLegal, duty_of, flight_duty_period, flight_time, price_of, release, report, segments, total}
use Rattle.crew_resource.specs.Members.{Member}
use Rattle.crew_pairing.specs.Machinery.Beginnings.{AreFlights}
use Rattle.crew_pairing.specs.declared.duty.Duty.{Duty}
use Rattle.crew_pairing.specs.declared.leg.TimedLeg.{TimedLeg}
use Rattle.crew_pairing.proofs.Legal.{known-sound}
use Rattle.crew_pairing.proofs.Times.{AllSound, ends-later, flown-total}
use Rattle.crew_pairing.proofs.Timetables.{flights-of-timetable}
use Rattle.crew_vector.specs.Machinery.Amounts.{rate_share}

-- the greatest limits of the tables

at-most : (m n : ℕ) → nat_le m n ≡ true → m ≤ n
at-most m n h = grind (arith, nat_tests)

below-index : (m : ℕ) (xs : List ℕ) → list_all (λ x. nat_le x m) xs ≡ true → (k : ℕ) → slice_index xs k ≤ m
below-index m [] h k = omega arith
below-index m (x ∷ xs) h zero = at-most x m (and_parts _ _ h).0
below-index m (x ∷ xs) h (suc k) = below-index m xs (and_parts _ _ h).1 k

in-force : (m : ℕ) (before : List ℕ) (rows : List Row) (clock : ℕ) → list_all (λ x. nat_le x m) before ≡ true → list_all (λ (r : Row). list_all (λ x. nat_le x m) r.1) rows ≡ true
    → list_all (λ x. nat_le x m) (in_force before rows clock) ≡ true
in-force m before [] clock h k = h
in-force m before (row ∷ rows) clock h k = choose (nat_le row.0 clock) (in-force m row.1 rows clock (and_parts _ _ k).0 (and_parts _ _ k).1)
  where
    choose : (b : Bool) → list_all (λ x. nat_le x m) (in_force row.1 rows clock) ≡ true → list_all (λ x. nat_le x m) (if b then in_force row.1 rows clock else before) ≡ true
    choose true later = later
    choose false later = h

table_a-most : (clock : ℕ) → table_a clock ≤ 540
table_a-most clock = below-index 540 (in_force [] rows_a clock) (in-force 540 [] rows_a clock refl refl) 0

table_b-most : (clock n : ℕ) → table_b clock n ≤ 840
table_b-most clock n = below-index 840 (in_force [] rows_b clock) (in-force 840 [] rows_b clock refl refl) (min n 7 - 1)

-- prices
price-by : (b : Bool) (z : ℤ) → negsuc 999_999_999 ≤ℤ z → z ≤ℤ pos 1_000_000_000 → (negsuc 999_999_999 ≤ℤ (if b then pos 0 else z)) × ((if b then pos 0 else z) ≤ℤ pos 1_000_000_000)
price-by true z h k = (omega (arith, ints), omega (arith, ints))
price-by false z h k = (h, k)

price-total : (legs : List TimedLeg) → AllSound legs → (neg_ℤ (pos (1_000_000_000 * length legs)) ≤ℤ total price_of legs) × (total price_of legs ≤ℤ pos (1_000_000_000 * length legs))
price-total [] sound = (omega (arith, ints), omega (arith, ints))
price-total (l ∷ legs) sound =
    let p = price-by l.deadhead l.flight.price sound.0.least_price sound.0.most_price in
    let q = price-total legs sound.1 in
    (omega (arith, ints, p.0, q.0), omega (arith, ints, p.1, q.1))

greatest-between : (a b : ℤ) (c n : ℕ) → a ≤ℤ pos n → b ≤ℤ pos n → c ≤ n → (pos 0 ≤ℤ int_max (int_max a b) (pos c)) × (int_max (int_max a b) (pos c) ≤ℤ pos n)
greatest-between a b c n h i j = (grind (arith, ints), grind (arith, ints))

pay-between : (s : Settings) (elapsed fly : ℤ) → IsChecked s → pos 0 ≤ℤ elapsed → elapsed ≤ℤ pos 1_080 → pos 0 ≤ℤ fly → fly ≤ℤ pos 540
    → (pos 0 ≤ℤ duty_pay s elapsed fly) × (duty_pay s elapsed fly ≤ℤ pos 20_000)
pay-between s elapsed fly checked a b c d =
    let rig = rate_share s.duty_rig 1_080 elapsed a b in
    let flown = rate_share 14 540 fly c d in
    let most = checked.duty_rig in
    let r : (pos s.duty_rig *ℤ elapsed) ≤ℤ pos 20_000 = omega (arith, ints, rig.1, most) in
    let f : (pos 14 *ℤ fly) ≤ℤ pos 20_000 = omega (arith, ints, flown.1) in
    greatest-between (pos 14 *ℤ fly) (pos s.duty_rig *ℤ elapsed) s.duty_min 20_000 f r checked.duty_min

pub legal-sound : (s : Settings) (flights : Flights) (first : TimedLeg) (others : List TimedLeg) → IsChecked s → AreFlights flights → IsLegal s flights first others → Events.IsSound (duty_of s first others)
legal-sound s flights first others checked f h =
    let sound = known-sound flights (first ∷ others) f h.known in
    let later = ends-later s flights.turns first others sound h.connected in
    let flown = flown-total (first ∷ others) sound in
    let a = table_a-most first.flight.report_clock in
    let b = table_b-most first.flight.report_clock (segments (first ∷ others)) in
    let debrief = checked.debrief in
    let fdp : flight_duty_period s first others ≤ℤ pos 840 = omega (arith, ints, h.table_b, b) in
    let fly : flight_time first others ≤ℤ pos 540 = omega (arith, ints, h.table_a, a) in
    let least : pos 0 ≤ℤ (release s first others -ℤ report s first) = omega (arith, ints, later) in
    let most : (release s first others -ℤ report s first) ≤ℤ pos 1_080 = omega (arith, ints, fdp, debrief) in
    let pay = pay-between s (release s first others -ℤ report s first) (flight_time first others) checked least most flown.0 fly in
    let price = price-total (first ∷ others) sound in
    let few = h.legs in
    record {
      fdp = omega (arith, ints, later);
      fdp_most = fdp;
      fly = flown.0;
      fly_most = fly;
      elapsed = least;
      elapsed_most = most;
      pay = pay.0;
      pay_most = pay.1;
      price = omega (arith, ints, price.0, few);
      price_most = omega (arith, ints, price.1, few);
    }

pub duties-sound : (s : Settings) (t : Timetable) (ds : List Duty) → IsChecked s → IsSound t → AreDuties s t ds → (d : Duty) → Member ds d → Events.IsSound d
duties-sound s t ds checked sound duties d m =
    let legal = duties.sound d m in
    let same : d ≡ duty_of s legal.0 legal.1 = legal.3 in
    subst Events.IsSound (sym same) (legal-sound s (flights_of t) legal.0 legal.1 checked (flights-of-timetable t sound) legal.2)
