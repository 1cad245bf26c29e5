-- Of two partials that end with one duty the resource's values are listed as the vectors are.
use Rattle.std.proofs.Common.{◌≡◌, ℕ, Bool, true, false, cond, List, [], ◌∷◌, map, length, Some, ℤ, pos, ◌-ℤ◌, int_le, sym, ◌∙◌, ap, subst, ⊎_elim, arith, Ordering}
use Rattle.std.specs.Prelude.{◌≤ℤ◌}
use Rattle.std.specs.Cmp.{nat_cmp_total}
use Rattle.std.specs.Cmp.Lexicographic.{slice_cmp}
use Rattle.std.specs.Ordering.{int_cmp, nat_cmp, ordering_then}
use Rattle.std.specs.declared.cmp.Ordering.TheVariants.{Equal}
use Rattle.std.proofs.lemmas.Bool.{and_parts, cases_Bool}
use Rattle.std.proofs.lemmas.Cmp.{tied_itself}
use Rattle.std.proofs.lemmas.Int.{ints}
use Rattle.crew_flights.specs.Timetable.{IsSound, Timetable}
use Rattle.crew_rules.specs.Settings.{IsChecked}
use Rattle.crew_rules.specs.declared.settings.Settings.{Settings}
use Rattle.crew_resource.specs.Machinery.Both.{both}
use Rattle.crew_resource.specs.Machinery.BothLaws.{both_parts}
use Rattle.crew_resource.specs.Members.{Each}
use Rattle.crew_pairing.specs.Duties.{flights_of}
use Rattle.crew_pairing.specs.Pairings.{last_duty}
use Rattle.crew_pairing.specs.declared.duty.Duty.{Duty}
use Rattle.crew_vector.specs.Fronts as Plain
use Rattle.crew_vector.specs.Machinery.Named.{named_order}
use Rattle.crew_vector.specs.Values.{value_of}
use Rattle.crew_history.specs.Limits.{arrival, history_of, period_of}
use Rattle.crew_history.specs.LongPairings.{IsLongPartial}
use Rattle.crew_history.proofs.FixedHistories.{history_cmp}
use Rattle.crew_long.specs.Recents.{is_dated, recent_periods}
use Rattle.crew_long.specs.RestEnds.{rest_end_at, rest_end_cmp}
use Rattle.crew_long.specs.Machinery.RecentStages.{recent_cmp}
use Rattle.crew_long.proofs.RestValues.{rest_off}
use Rattle.crew_answers.specs.Fronts.{period_cmp, vector_cmp}
use Rattle.crew_answers.specs.LongVectors.{LongVector, is_long, long_vector_of}
use Rattle.crew_answers.specs.Machinery.Joined.{parts_of}
use Rattle.crew_answers.specs.Schedules.{IsDated}
use Rattle.crew_answers.specs.Shown.{shown}
use Rattle.crew_answers.specs.declared.value.LongValue.{LongValue}
use Rattle.crew_answers.proofs.Listed.{StartsLate, cut-starts, histories-listed, then-equal, then-under, turned}
use Rattle.crew_answers.proofs.LongNodes.{Sums, all, out, rest_of, tells, third_of}
use Rattle.crew_answers.proofs.Missing.{same-some}
use Rattle.crew_answers.proofs.Recalled.{all-dated, fewer}

abbrev pub value_cmp : LongValue → LongValue → Ordering
value_cmp u v = ordering_then (Plain.vector_cmp u.sums v.sums) (ordering_then (rest_end_cmp u.rest_end v.rest_end) (recent_cmp u.recent v.recent))

le-is : (a b : ℤ) → int_le a b ≡ true → a ≤ℤ b
le-is a b h = grind (arith, ints)

dated-starts : (ds : List Duty) → Each (λ d. is_dated d ≡ true) ds → StartsLate (map period_of ds)
dated-starts [] h = tt
dated-starts (d ∷ ds) h = (le-is (pos 0) d.report (and_parts (int_le (pos 0) d.report) (int_le d.report (pos 2_000_000_000)) h.0).0, dated-starts ds h.1)

late-by : (b : Bool) (h : List (ℤ × ℤ)) → StartsLate h → StartsLate (cond b h [])
late-by true h s = s
late-by false h s = tt

same-count : (m n : ℕ) → pos m ≡ pos n → m ≡ n
same-count m n e = omega (arith, ints)

module _ (s : Settings) (t : Timetable) (base : List ℕ) (price : ℤ) (range : IsChecked s) (sound : IsSound t) (dated : IsDated t) where
  -- a partial, and its value
  pub record Valued (last : Duty) (u : LongValue) : Type 0 where
    pub first : Duty
    pub others : List Duty
    pub partial : IsLongPartial s (flights_of t) base first others
    pub value : all s t base price range sound dated (first ∷ others) ≡ Some u
    pub ends : last_duty first others ≡ last

  vector-is : (last : Duty) (u : LongValue) (a : Valued last u) → shown s last u ≡ long_vector_of s price a.first a.others
  vector-is last u a = subst (λ z. shown s z u ≡ long_vector_of s price a.first a.others) a.ends
      ((tells s t base price range sound dated).partial a.first a.others u a.partial.legal a.partial.leaves a.partial.rested a.value).1

  starts-late : (last : Duty) (u : LongValue) (a : Valued last u) → StartsLate (recent_periods u.recent)
  starts-late last u a = subst StartsLate (sym (ap (λ (z : LongVector). z.history) (vector-is last u a)))
      (late-by (is_long s) (history_of a.first a.others)
      (cut-starts (arrival (last_duty a.first a.others) -ℤ pos 10_080) (map period_of (a.first ∷ a.others))
      (dated-starts (a.first ∷ a.others) (all-dated s t base price range sound dated (a.first ∷ a.others) a.partial.legal))))

  parts-of-value : (last : Duty) (u : LongValue) (a : Valued last u)
      → (rest_of s t base price range sound dated (a.first ∷ a.others) ≡ Some u.rest_end) × (third_of s t base price range sound dated (a.first ∷ a.others) ≡ Some u.recent)
  parts-of-value last u a =
      let ds = a.first ∷ a.others in
      let rest = rest_of s t base price range sound dated ds in
      let third = third_of s t base price range sound dated ds in
      let k = both_parts (value_of (Sums s t base price range sound dated) price ds) (both rest third) (parts_of u) (out s t base price range sound dated ds u a.value) in
      both_parts rest third (u.rest_end, u.recent) k.1

  counted : (last : Duty) (u : LongValue) (a : Valued last u) → pos (length (a.first ∷ a.others)) ≡ u.sums.duties
  counted last u a = sym (ap (λ (z : LongVector). z.sums.duties) (vector-is last u a))

  rests-listed : (last : Duty) (u v : LongValue) → Valued last u → Valued last v
      → rest_end_cmp u.rest_end v.rest_end ≡ int_cmp (shown s last u).since_rest (shown s last v).since_rest
  rests-listed last u v a b = ⊎_elim
      (λ e. sym (turned last.report u.rest_end.minute v.rest_end.minute)
      ∙ ap (λ z. int_cmp (cond z (last.report -ℤ u.rest_end.minute) (pos 0)) (cond z (last.report -ℤ v.rest_end.minute) (pos 0))) (sym e))
      (λ e.
      let x : u.rest_end ≡ rest_end_at (pos 0) = same-some u.rest_end (rest_end_at (pos 0)) (sym (parts-of-value last u a).0 ∙ rest_off (is_long s) a.first a.others e) in
      let y : v.rest_end ≡ rest_end_at (pos 0) = same-some v.rest_end (rest_end_at (pos 0)) (sym (parts-of-value last v b).0 ∙ rest_off (is_long s) b.first b.others e) in
      ap (λ z. rest_end_cmp z v.rest_end) x ∙ (ap (rest_end_cmp (rest_end_at (pos 0))) y
      ∙ ap (λ z. int_cmp (cond z (last.report -ℤ u.rest_end.minute) (pos 0)) (cond z (last.report -ℤ v.rest_end.minute) (pos 0))) (sym e)))
      (cases_Bool (is_long s))

  -- equal sums have equal numbers of duties
  counts-tied : (last : Duty) (u v : LongValue) → Valued last u → Valued last v → u.sums ≡ v.sums → nat_cmp u.recent.duties v.recent.duties ≡ Equal
  counts-tied last u v a b e =
      let same : length (a.first ∷ a.others) ≡ length (b.first ∷ b.others) = same-count (length (a.first ∷ a.others)) (length (b.first ∷ b.others)) (counted last u a ∙ (ap (λ z. z.duties) e ∙ sym (counted last v b))) in
      let p = fewer s t base price range sound dated a.first a.others b.first b.others u.recent v.recent a.partial b.partial (parts-of-value last u a).1 (parts-of-value last v b).1 (omega (arith, same)) in
      let q = fewer s t base price range sound dated b.first b.others a.first a.others v.recent u.recent b.partial a.partial (parts-of-value last v b).1 (parts-of-value last u a).1 (omega (arith, same)) in
      let tied : u.recent.duties ≡ v.recent.duties = omega (arith, p, q) in
      ap (λ z. nat_cmp z v.recent.duties) tied ∙ tied_itself nat_cmp_total v.recent.duties

  pub values-listed : (last : Duty) (u v : LongValue) → Valued last u → Valued last v → value_cmp u v ≡ vector_cmp (shown s last u) (shown s last v)
  values-listed last u v a b =
      then-under (Plain.vector_cmp u.sums v.sums) (ordering_then (rest_end_cmp u.rest_end v.rest_end) (recent_cmp u.recent v.recent))
      (ordering_then (int_cmp (shown s last u).since_rest (shown s last v).since_rest) (slice_cmp period_cmp (recent_periods u.recent) (recent_periods v.recent)))
      (λ e.
      let sums = named_order.exact u.sums v.sums e in
      let past : recent_cmp u.recent v.recent ≡ slice_cmp period_cmp (recent_periods u.recent) (recent_periods v.recent) =
      ap (ordering_then (history_cmp u.recent.history v.recent.history)) (counts-tied last u v a b sums)
      ∙ (then-equal (history_cmp u.recent.history v.recent.history) ∙ histories-listed u.recent.history v.recent.history (starts-late last u a) (starts-late last v b)) in
      ap (λ o. ordering_then o (recent_cmp u.recent v.recent)) (rests-listed last u v a b)
      ∙ ap (ordering_then (int_cmp (shown s last u).since_rest (shown s last v).since_rest)) past)
