-- The flight duty of the last window, in a history of fixed size, is what the theory asks of the third part of a value.
use Rattle.std.proofs.Common.{◌≡◌, ℕ, ◌≤◌, Bool, true, false, ◌&&◌, List, [], ◌∷◌, length, Option, Some, ℤ, pos, ◌-ℤ◌, int_le, nat_le, refl, sym, ◌∙◌, ap, subst, ⊎_elim, arith}
use Rattle.std.specs.Prelude.{◌≤ℤ◌}
use Rattle.std.proofs.lemmas.Bool.{and_from, and_parts, cases_Bool}
use Rattle.std.proofs.lemmas.Bool.Decides.{nat_tests}
use Rattle.std.proofs.lemmas.Int.{ints}
use Rattle.crew_flights.specs.Timetable.{IsSound, Timetable}
use Rattle.crew_rules.specs.Settings.{IsChecked}
use Rattle.crew_rules.specs.declared.settings.Settings.{Settings}
use Rattle.crew_resource.specs.Members.{Each}
use Rattle.crew_pairing.specs.Duties.{flights_of}
use Rattle.crew_pairing.specs.Legality.{duty_of, total}
use Rattle.crew_pairing.specs.Pairings.{IsDuty, minutes_away}
use Rattle.crew_pairing.specs.declared.duty.Duty.{Duty}
use Rattle.crew_history.specs.HistoryValues.{history_at_most}
use Rattle.crew_history.specs.LongPairings.{IsLongPartial}
use Rattle.crew_history.specs.Limits as Limits
use Rattle.crew_history.specs.Limits.{keeps_total}
use Rattle.crew_long.specs.Recents.{is_dated, recent_at_most, recent_periods}
use Rattle.crew_long.specs.Machinery.Folds.{value_by, value_from}
use Rattle.crew_long.specs.Machinery.RecentStages.{extend_recent, idle_periods, idle_recent, open_recent}
use Rattle.crew_long.specs.declared.recent.Recent.{Recent}
use Rattle.crew_long.proofs.WindowValues.{value_keeps, window_value}
use Rattle.crew_answers.specs.LongVectors.{is_long}
use Rattle.crew_answers.specs.Schedules.{IsDated}
use Rattle.crew_answers.proofs.Missing.{same-some}
use Rattle.crew_answers.proofs.Parts as Parts
use Rattle.crew_answers.proofs.Parts.{Recalls}

le-is : (m n : ℕ) → int_le (pos m) (pos n) ≡ true → m ≤ n
le-is m n h = grind (arith, ints)

le-yes : (m n : ℕ) → m ≤ n → nat_le m n ≡ true
le-yes m n h = grind (arith, nat_tests)

-- a report lies between 1970 and 5772
dated-report : (dep : ℤ) (lead : ℕ) → pos 15_776_640 ≤ℤ dep → dep ≤ℤ pos 68_375_519 → lead ≤ 240 → (pos 0 ≤ℤ (dep -ℤ pos lead)) × ((dep -ℤ pos lead) ≤ℤ pos 2_000_000_000)
dated-report dep lead h k l = (omega (arith, ints), omega (arith, ints))

int-yes : (a b : ℤ) → a ≤ℤ b → int_le a b ≡ true
int-yes a b h = grind (arith, ints)

same-from : (cap : ℤ) (v : Recent) (last : Duty) (others : List Duty) → value_from (extend_recent false cap) v last others ≡ Some v
same-from cap v last [] = refl
same-from cap v last (next ∷ others) = same-from cap v next others

window-off : (is_on : Bool) (cap : ℤ) → is_on ≡ false → (first : Duty) (others : List Duty) → value_by (open_recent is_on cap) (extend_recent is_on cap) (first ∷ others) ≡ Some idle_recent
window-off true cap e first others = absurd (let q : ⊥ = (cc) in q)
window-off false cap e first others = same-from cap idle_recent first others

module _ (s : Settings) (t : Timetable) (base : List ℕ) (price : ℤ) (range : IsChecked s) (sound : IsSound t) (dated : IsDated t) where
  duty-dated : (d : Duty) → IsDuty s (flights_of t) d → is_dated d ≡ true
  duty-dated d l =
      let i = dated l.0.flight l.2.known.0 in
      let k = dated-report l.0.flight.dep s.lead i.from i.to range.lead in
      subst (λ z. is_dated z ≡ true) (sym l.3) (and_from (int_le (pos 0) (duty_of s l.0 l.1).report) (int_le (duty_of s l.0 l.1).report (pos 2_000_000_000))
      (int-yes (pos 0) (duty_of s l.0 l.1).report k.0) (int-yes (duty_of s l.0 l.1).report (pos 2_000_000_000) k.1))

  pub all-dated : (ds : List Duty) → Each (IsDuty s (flights_of t)) ds → Each (λ d. is_dated d ≡ true) ds
  all-dated [] h = tt
  all-dated (d ∷ ds) h = (duty-dated d h.0, all-dated ds h.1)

  abbrev third_of : List Duty → Option Recent
  third_of ds = value_by (open_recent (is_long s) (pos s.fdp_cap)) (extend_recent (is_long s) (pos s.fdp_cap)) ds

  few : (first : Duty) (others : List Duty) → IsLongPartial s (flights_of t) base first others → length (first ∷ others) ≤ 12
  few first others p =
      let ds = first ∷ others in
      let k = and_parts (keeps_total (pos s.fdp_total) ds) (int_le (total (λ d. d.fly) ds) (pos s.fly_cap) && (int_le (pos (length ds)) (pos s.max_duties) && int_le (minutes_away ds) (pos s.away_cap))) p.capped in
      let l = and_parts (int_le (total (λ d. d.fly) ds) (pos s.fly_cap)) (int_le (pos (length ds)) (pos s.max_duties) && int_le (minutes_away ds) (pos s.away_cap)) k.1 in
      let m = and_parts (int_le (pos (length ds)) (pos s.max_duties)) (int_le (minutes_away ds) (pos s.away_cap)) l.1 in
      let n = le-is (length ds) s.max_duties m.0 in
      let most = range.max_duties_most in
      omega (arith, n, most)

  -- what a partial has
  there : (first : Duty) (others : List Duty) → is_long s ≡ true → IsLongPartial s (flights_of t) base first others → (v : Recent)
      × (third_of (first ∷ others) ≡ Some v) × (recent_periods v ≡ Limits.history_of first others) × (v.duties ≡ length (first ∷ others))
  there first others e p = window_value (is_long s) (pos s.fdp_cap) first others e (omega (arith, ints)) (Parts.ordered s t base price range sound first others p.legal p.rested)
      (all-dated (first ∷ others) p.legal) (few first others p) p.windows

  counts : (first : Duty) (others : List Duty) (u : Recent) → is_long s ≡ true → IsLongPartial s (flights_of t) base first others → third_of (first ∷ others) ≡ Some u → u.duties ≡ length (first ∷ others)
  counts first others u e p k =
      let z = there first others e p in
      let q : u ≡ z.0 = same-some u z.0 (sym k ∙ z.1) in
      ap (λ x. x.duties) q ∙ z.3

  pub fewer : (first : Duty) (others : List Duty) (other_first : Duty) (other_others : List Duty) (u v : Recent)
      → IsLongPartial s (flights_of t) base first others → IsLongPartial s (flights_of t) base other_first other_others
      → third_of (first ∷ others) ≡ Some u → third_of (other_first ∷ other_others) ≡ Some v → length (first ∷ others) ≤ length (other_first ∷ other_others) → u.duties ≤ v.duties
  fewer first others other_first other_others u v p q e f h = ⊎_elim
      (λ on. let a = counts first others u on p e in let b = counts other_first other_others v on q f in omega (arith, a, b, h))
      (λ off.
      let a : u ≡ idle_recent = same-some u idle_recent (sym e ∙ window-off (is_long s) (pos s.fdp_cap) off first others) in
      let b : v ≡ idle_recent = same-some v idle_recent (sym f ∙ window-off (is_long s) (pos s.fdp_cap) off other_first other_others) in
      let c : u.duties ≡ v.duties = ap (λ x. x.duties) (a ∙ sym b) in
      omega (arith, c))
      (cases_Bool (is_long s))

  pub recalls : Recalls s t base price range sound Recent third_of recent_periods recent_at_most
  recalls = record {
    value = λ first others e p. let z = there first others e p in (z.0, z.1, z.2);
    keeps = λ first others w e o k. value_keeps (is_long s) (pos s.fdp_cap) first others w e (omega (arith, ints)) o k;
    off = λ e. (idle_recent, idle_periods, window-off (is_long s) (pos s.fdp_cap) e);
    decides = λ first others other_first other_others u v p q e f h.
        ap (λ b. b && history_at_most u.history v.history) (le-yes u.duties v.duties (fewer first others other_first other_others u v p q e f h));
  }
