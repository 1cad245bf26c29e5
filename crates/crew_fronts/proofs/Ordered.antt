-- The labels of a pass's front, listed by value, show entries in order of vector.
use Rattle.std.proofs.Common.{◌≡◌, ◌∙◌, ℕ, cond, List, [], ◌∷◌, pos, ◌-ℤ◌, inl, inr, refl, sym, ap, ⊎_elim, arith}
use Rattle.std.specs.Cmp.{nat_cmp_total}
use Rattle.std.specs.Cmp.Lexicographic.{slice_cmp}
use Rattle.std.specs.Ordering.{int_cmp, nat_cmp, ordering_then}
use Rattle.std.specs.declared.cmp.Ordering.TheVariants.{Equal, Less}
use Rattle.std.proofs.lemmas.Bool.{cases_Bool}
use Rattle.std.proofs.lemmas.Cmp.{tied_itself}
use Rattle.std.proofs.lemmas.Int.{ints}
use Rattle.crew_answers.proofs.Listed.{histories-listed, then-equal, then-under, turned}
use Rattle.crew_answers.proofs.LongListed.{value_cmp}
use Rattle.crew_answers.specs.Fronts.{RiseByVector, period_cmp, vector_cmp}
use Rattle.crew_answers.specs.LongVectors.{is_long}
use Rattle.crew_answers.specs.Shown.{shown}
use Rattle.crew_answers.specs.declared.value.LongValue.{LongValue}
use Rattle.crew_pass.proofs.crew_history_lemmas.FixedHistories.{history_cmp}
use Rattle.crew_label.specs.Pools.{AreRising}
use Rattle.crew_label.specs.Tables.{Tabled}
use Rattle.crew_label.specs.declared.label.Label.{Label}
use Rattle.crew_pass.specs.crew_long.Recents.{recent_periods}
use Rattle.crew_pass.specs.crew_long.RestEnds.{rest_end_at, rest_end_cmp}
use Rattle.crew_pass.specs.crew_long.Machinery.RecentStages.{recent_cmp}
use Rattle.crew_pairing.specs.declared.duty.Duty.{Duty}
use Rattle.crew_resource.specs.Members.{Each, Member}
use Rattle.crew_rules.specs.declared.settings.Settings.{Settings}
use Rattle.crew_solve.specs.crew_vector.Fronts as Plain
use Rattle.crew_solve.specs.crew_vector.Machinery.Named.{named_order}
use Rattle.crew_fronts.specs.Machinery.Lent.{label_entries}
use Rattle.crew_fronts.specs.Machinery.Values.{IsCounting}

same-count : (m n : ℕ) → pos m ≡ pos n → m ≡ n
same-count m n e = omega (arith, ints, e)

module _ (s : Settings) (last : Duty) (u v : LongValue) (m n : ℕ) (a : IsCounting (is_long s) u m) (b : IsCounting (is_long s) v n) where
  rests-listed : rest_end_cmp u.rest_end v.rest_end ≡ int_cmp (shown s last u).since_rest (shown s last v).since_rest
  rests-listed = ⊎_elim
      (λ e. sym (turned last.report u.rest_end.minute v.rest_end.minute)
      ∙ ap (λ z. int_cmp (cond z (last.report -ℤ u.rest_end.minute) (pos 0)) (cond z (last.report -ℤ v.rest_end.minute) (pos 0))) (sym e))
      (λ e.
      ap (λ z. rest_end_cmp z v.rest_end) (a.rest_off e) ∙ (ap (rest_end_cmp (rest_end_at (pos 0))) (b.rest_off e)
      ∙ ap (λ z. int_cmp (cond z (last.report -ℤ u.rest_end.minute) (pos 0)) (cond z (last.report -ℤ v.rest_end.minute) (pos 0))) (sym e)))
      (cases_Bool (is_long s))

  counts-tied : u.sums ≡ v.sums → nat_cmp u.recent.duties v.recent.duties ≡ Equal
  counts-tied e =
      let tied : u.recent.duties ≡ v.recent.duties = ⊎_elim {C = u.recent.duties ≡ v.recent.duties}
      (λ on. a.tied on ∙ (same-count m n (sym a.counts ∙ (ap (λ z. z.duties) e ∙ b.counts)) ∙ sym (b.tied on)))
      (λ off. ap (λ z. z.duties) (a.window_off off) ∙ sym (ap (λ z. z.duties) (b.window_off off)))
      (cases_Bool (is_long s)) in
      ap (λ z. nat_cmp z v.recent.duties) tied ∙ tied_itself nat_cmp_total v.recent.duties

  pub values-listed : value_cmp u v ≡ vector_cmp (shown s last u) (shown s last v)
  values-listed =
      then-under (Plain.vector_cmp u.sums v.sums) (ordering_then (rest_end_cmp u.rest_end v.rest_end) (recent_cmp u.recent v.recent))
      (ordering_then (int_cmp (shown s last u).since_rest (shown s last v).since_rest) (slice_cmp period_cmp (recent_periods u.recent) (recent_periods v.recent)))
      (λ e.
      let sums = named_order.exact u.sums v.sums e in
      let past : recent_cmp u.recent v.recent ≡ slice_cmp period_cmp (recent_periods u.recent) (recent_periods v.recent) =
      ap (ordering_then (history_cmp u.recent.history v.recent.history)) (counts-tied sums)
      ∙ (then-equal (history_cmp u.recent.history v.recent.history) ∙ histories-listed u.recent.history v.recent.history a.late b.late) in
      ap (λ o. ordering_then o (recent_cmp u.recent v.recent)) rests-listed
      ∙ ap (ordering_then (int_cmp (shown s last u).since_rest (shown s last v).since_rest)) past)

module _ (s : Settings) (last : Duty) (t : Tabled LongValue) (duties : List Duty) where
  each-listed : (l : Label LongValue) (ls : List (Label LongValue)) (m : ℕ) → IsCounting (is_long s) l.value m → ((k : Label LongValue) → Member ls k → (n : ℕ) × IsCounting (is_long s) k.value n)
      → Each (λ k. value_cmp l.value k.value ≡ Less) ls → Each (λ later. vector_cmp (shown s last l.value) later.0 ≡ Less) (label_entries t duties s last ls)
  each-listed l [] m a f h = tt
  each-listed l (k ∷ ks) m a f h =
      let b = f k (inl refl) in
      (sym (values-listed s last l.value k.value m b.0 a b.1) ∙ h.0, each-listed l ks m a (λ x i. f x (inr i)) h.1)

  pub labels-rise : (ls : List (Label LongValue)) → ((k : Label LongValue) → Member ls k → (n : ℕ) × IsCounting (is_long s) k.value n) → AreRising value_cmp ls → RiseByVector (label_entries t duties s last ls)
  labels-rise [] f h = tt
  labels-rise (l ∷ ls) f h =
      let a = f l (inl refl) in
      (each-listed l ls a.0 a.1 (λ x i. f x (inr i)) h.0, labels-rise ls (λ x i. f x (inr i)) h.1)
