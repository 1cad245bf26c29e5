-- A step of the parts is a vector with one more duty, within the limits.
use Rattle.std.proofs.Common.{◌≡◌, Bool, true, false, ◌&&◌, cond, List, [], ◌∷◌, map, Option, Some, None, ℤ, pos, ◌+ℤ◌, ◌-ℤ◌, int_le, refl, sym, ◌∙◌, ap, subst, arith}
use Rattle.std.specs.Prelude.{◌≤ℤ◌, ◌<ℤ◌}
use Rattle.std.proofs.lemmas.Bool.{and_from, and_parts, cases_Bool}
use Rattle.std.proofs.lemmas.Int.{ints}
use Rattle.crew_resource.specs.Machinery.Both.{both}
use Rattle.crew_resource.specs.Machinery.BothLaws.{both_parts}
use Rattle.crew_rules.specs.declared.settings.Settings.{Settings}
use Rattle.crew_pairing.specs.Events.{arrival_of, departure_of}
use Rattle.crew_pairing.specs.Pairings.{last_duty, rest}
use Rattle.crew_pairing.specs.Vectors.{vector_of}
use Rattle.crew_pairing.specs.declared.duty.Duty.{Duty}
use Rattle.crew_pairing.specs.declared.vector.PairingVector.{PairingVector}
use Rattle.crew_vector.specs.Locals as Sums
use Rattle.crew_vector.proofs.Growth as SumsGrowth
use Rattle.crew_vector.proofs.Steps as SumsSteps
use Rattle.crew_history.specs.Histories.{EndsBefore, fits_window, follows, grown, may_board, minutes_after}
use Rattle.crew_history.specs.Limits.{AreInOrder, IsTimed, arrival, period_of}
use Rattle.crew_history.proofs.Histories.{follows_decides}
use Rattle.crew_history.proofs.OfDuties.{lasts}
use Rattle.crew_long.specs.RestEnds.{rest_end_at, wait_rest}
use Rattle.crew_long.specs.Machinery.RestStages.{extend_rest, open_rest}
use Rattle.crew_long.specs.declared.rest_end.RestEnd.{RestEnd}
use Rattle.crew_answers.specs.Locals as Locals
use Rattle.crew_answers.specs.LongVectors.{LongVector, is_long, long_vector_of, settings_of_sums}
use Rattle.crew_answers.proofs.KeptHistories.{Kept, board_kept, extend_kept, kept-in, kept-out, none-kept, none-periods, open_kept}
use Rattle.crew_answers.proofs.Missing.{test-out, three}
use Rattle.crew_answers.proofs.Vectors.{same-vector}

-- periods of duties in order end before a later report
report-before : (first : Duty) (others : List Duty) (r : ℤ) → AreInOrder first others → (last_duty first others).release <ℤ r → first.report <ℤ r
report-before first [] r o h = let l = lasts first o in less first.report first.release r l h
  where
    less : (a b r : ℤ) → a ≤ℤ b → b <ℤ r → a <ℤ r
    less a b r h k = omega (arith, ints)
report-before first (next ∷ others) r o h =
    let l = lasts first o.0 in
    let k = report-before next others r o.2 h in
    less first.report first.release next.report r l o.1 k
  where
    less : (a b c r : ℤ) → a ≤ℤ b → b <ℤ c → c <ℤ r → a <ℤ r
    less a b c r h k l = omega (arith, ints)

pub periods-end : (first : Duty) (others : List Duty) (r : ℤ) → AreInOrder first others → (last_duty first others).release <ℤ r → EndsBefore (map period_of (first ∷ others)) r
periods-end first [] r o h = (less (arrival first) first.release r o.arrives h, tt)
  where
    less : (a b r : ℤ) → a ≤ℤ b → b <ℤ r → a <ℤ r
    less a b r h k = omega (arith, ints)
periods-end first (next ∷ others) r o h = (
  less (arrival first) first.release next.report r o.0.arrives o.1 (report-before next others r o.2 h),
  periods-end next others r o.2 h,
)
  where
    less : (a b c r : ℤ) → a ≤ℤ b → b <ℤ c → c <ℤ r → a <ℤ r
    less a b c r h k l = omega (arith, ints)

-- minutes since the last long rest, with one duty more
abbrev since-grown : Bool → Duty → Duty → ℤ → ℤ
since-grown on e d m = cond on (cond (int_le (pos 1_800) (rest e d)) (pos 0) (cond on (e.report -ℤ m) (pos 0) +ℤ (d.report -ℤ e.report))) (pos 0)

since-by : (t : Bool) (r m e : ℤ) → r -ℤ cond t r m ≡ cond t (pos 0) ((e -ℤ m) +ℤ (r -ℤ e))
since-by true r m e = omega (arith, ints)
since-by false r m e = omega (arith, ints)

rest-step : (on : Bool) (v : RestEnd) (e d : Duty) → extend_rest on v e d ≡ cond (cond on (int_le (since-grown on e d v.minute) (pos 8_280)) true) (Some (wait_rest on v (arrival_of e) (departure_of d))) None
rest-step true v e d =
    ap (λ z. cond (int_le z (pos 8_280)) (Some (wait_rest true v (arrival_of e) (departure_of d))) None) (since-by (int_le (pos 1_800) (rest e d)) d.report v.minute e.report)
rest-step false v e d = refl

rest-shown : (on : Bool) (v : RestEnd) (e d : Duty) → cond on (d.report -ℤ (wait_rest on v (arrival_of e) (departure_of d)).minute) (pos 0) ≡ since-grown on e d v.minute
rest-shown true v e d = since-by (int_le (pos 1_800) (rest e d)) d.report v.minute e.report
rest-shown false v e d = refl

rest-start : (on : Bool) (d : Duty) → open_rest on d ≡ cond (cond on (int_le (d.report -ℤ d.report) (pos 8_280)) true) (Some (rest_end_at (cond on d.report (pos 0)))) None
rest-start true d = refl
rest-start false d = refl

-- flight duty of the last window, with one duty more
abbrev history-grown : Bool → List (ℤ × ℤ) → Duty → List (ℤ × ℤ)
history-grown on h d = cond on (grown (pos 10_080) h (period_of d)) []

abbrev fits : Bool → ℤ → List (ℤ × ℤ) → Duty → Bool
fits on cap h d = cond on (int_le (minutes_after (history-grown on h d) (arrival d -ℤ pos 10_080)) cap) true

kept-step-in : (on : Bool) (cap : ℤ) (v : Kept) (d : Duty) → (on ≡ true → follows v.periods (period_of d) ≡ true) → (on ≡ false → v.periods ≡ []) → fits on cap v.periods d ≡ true
    → (z : Kept) × (board_kept on cap v d ≡ Some z) × (z.periods ≡ history-grown on v.periods d)
kept-step-in true cap v d f n h =
    kept-in cap v d (cases_Bool (may_board (pos 10_080) cap v.periods (period_of d))) (and_from (follows v.periods (period_of d)) (fits_window (pos 10_080) cap v.periods (period_of d)) (f refl) h)
kept-step-in false cap v d f n h = (v, refl, n refl)

kept-step-out : (on : Bool) (cap : ℤ) (v z : Kept) (d : Duty) → (on ≡ false → v.periods ≡ []) → board_kept on cap v d ≡ Some z → (fits on cap v.periods d ≡ true) × (z.periods ≡ history-grown on v.periods d)
kept-step-out true cap v z d n e =
    let k = kept-out cap v d (cases_Bool (may_board (pos 10_080) cap v.periods (period_of d))) z e in
    ((and_parts (follows v.periods (period_of d)) (fits_window (pos 10_080) cap v.periods (period_of d)) k.0).1, k.1)
kept-step-out false cap v z d n e = (refl, let q : v ≡ z = (cc) in ap (λ x. x.periods) (sym q) ∙ n refl)

both-tests : (on a b : Bool) → cond on (a && b) true ≡ (cond on a true && cond on b true)
both-tests true a b = refl
both-tests false a b = refl

abbrev pub Value : Type 0
Value = PairingVector × (RestEnd × Kept)

module _ (s : Settings) where
  abbrev on : Bool
  on = is_long s

  abbrev cap : ℤ
  cap = pos s.fdp_cap

  abbrev pub shown : Duty → Value → LongVector
  shown d v = record { sums = v.0; since_rest = cond on (d.report -ℤ v.1.0.minute) (pos 0); history = v.1.1.periods }

  abbrev pub stepped : Value → Duty → Duty → Option Value
  stepped v e d = both (SumsSteps.extends (settings_of_sums s) v.0 e d) (both (extend_rest on v.1.0 e d) (extend_kept on cap v.1.1 e d))

  abbrev pub started : ℤ → Duty → Option Value
  started price d = both (SumsSteps.opens (settings_of_sums s) price d) (both (open_rest on d) (open_kept on cap d))

  -- the limits are three tests
  three-tests : (last : Duty) (v : LongVector) → Locals.is_within_limits s last v ≡ true
      → (Sums.is_vector_within_caps (settings_of_sums s) v.sums ≡ true) × (cond on (int_le v.since_rest (pos 8_280)) true ≡ true)
      × (cond on (int_le (minutes_after v.history (arrival last -ℤ pos 10_080)) cap) true ≡ true)
  three-tests last v h =
      let a = int_le v.since_rest (pos 8_280) in
      let b = int_le (minutes_after v.history (arrival last -ℤ pos 10_080)) cap in
      let k = and_parts (Sums.is_vector_within_caps (settings_of_sums s) v.sums) (cond on (a && b) true) h in
      let l = and_parts (cond on a true) (cond on b true) (sym (both-tests on a b) ∙ k.1) in
      (k.0, l.0, l.1)

  from-tests : (last : Duty) (v : LongVector) → Sums.is_vector_within_caps (settings_of_sums s) v.sums ≡ true → cond on (int_le v.since_rest (pos 8_280)) true ≡ true
      → cond on (int_le (minutes_after v.history (arrival last -ℤ pos 10_080)) cap) true ≡ true → Locals.is_within_limits s last v ≡ true
  from-tests last v p q r =
      let a = int_le v.since_rest (pos 8_280) in
      let b = int_le (minutes_after v.history (arrival last -ℤ pos 10_080)) cap in
      and_from (Sums.is_vector_within_caps (settings_of_sums s) v.sums) (cond on (a && b) true) p
      (both-tests on a b ∙ and_from (cond on a true) (cond on b true) q r)

  pub step-in : (v : Value) (e d : Duty) → (on ≡ true → follows v.1.1.periods (period_of d) ≡ true) → (on ≡ false → v.1.1.periods ≡ [])
      → Locals.is_within_limits s d (Locals.grown s e d (shown e v)) ≡ true
      → (z : Value) × (stepped v e d ≡ Some z) × (shown d z ≡ Locals.grown s e d (shown e v))
  step-in v e d f n h =
      let tests = three-tests d (Locals.grown s e d (shown e v)) h in
      let sums = SumsGrowth.step-in (settings_of_sums s) e d v.0 (Sums.grown s e d v.0) tests.0 refl in
      let ends = wait_rest on v.1.0 (arrival_of e) (departure_of d) in
      let rested = rest-step on v.1.0 e d ∙ ap (λ b. cond b (Some ends) None) tests.1 in
      let past = kept-step-in on cap v.1.1 d f n tests.2 in (
        (Sums.grown s e d v.0, (ends, past.0)),
        three (SumsSteps.extends (settings_of_sums s) v.0 e d) (extend_rest on v.1.0 e d) (extend_kept on cap v.1.1 e d) (Sums.grown s e d v.0) ends past.0 sums rested past.1,
        same-vector (Sums.grown s e d v.0) (Sums.grown s e d v.0) _ _ _ _ refl (rest-shown on v.1.0 e d) past.2,
      )

  pub step-out : (v z : Value) (e d : Duty) → (on ≡ false → v.1.1.periods ≡ []) → stepped v e d ≡ Some z
      → (Locals.is_within_limits s d (Locals.grown s e d (shown e v)) ≡ true) × (shown d z ≡ Locals.grown s e d (shown e v))
  step-out v z e d n h =
      let k = both_parts (SumsSteps.extends (settings_of_sums s) v.0 e d) (both (extend_rest on v.1.0 e d) (extend_kept on cap v.1.1 e d)) z h in
      let l = both_parts (extend_rest on v.1.0 e d) (extend_kept on cap v.1.1 e d) z.1 k.1 in
      let sums = SumsGrowth.step-out (settings_of_sums s) e d v.0 z.0 k.0 in
      let ends = wait_rest on v.1.0 (arrival_of e) (departure_of d) in
      let rested = test-out (cond on (int_le (since-grown on e d v.1.0.minute) (pos 8_280)) true) ends z.1.0 (sym (rest-step on v.1.0 e d) ∙ l.0) in
      let past = kept-step-out on cap v.1.1 z.1.1 d n l.1 in (
        from-tests d (Locals.grown s e d (shown e v)) sums.0 rested.0 past.0,
        same-vector z.0 (Sums.grown s e d v.0) _ _ _ _ sums.1 (ap (λ (x : RestEnd). cond on (d.report -ℤ x.minute) (pos 0)) (sym rested.1) ∙ rest-shown on v.1.0 e d) past.1,
      )

  collapsed : (b : Bool) (x c : ℤ) → cond b (int_le (cond b x (pos 0)) c) true ≡ cond b (int_le x c) true
  collapsed true x c = refl
  collapsed false x c = refl

  start-shown : (b : Bool) (r : ℤ) → cond b (r -ℤ cond b r (pos 0)) (pos 0) ≡ cond b (r -ℤ r) (pos 0)
  start-shown true r = refl
  start-shown false r = refl

  first-follows : (d : Duty) → IsTimed d → follows none-kept.periods (period_of d) ≡ true
  first-follows d timed = subst (λ h. follows h (period_of d) ≡ true) (sym none-periods) ((follows_decides [] (period_of d) tt).1 tt (later d.report d.fdp timed.nonempty))
    where
      later : (r f : ℤ) → pos 0 <ℤ f → r <ℤ (r +ℤ f)
      later r f h = omega (arith, ints)

  pub start-in : (price : ℤ) (d : Duty) → IsTimed d → Locals.is_within_limits s d (long_vector_of s price d []) ≡ true
      → (z : Value) × (started price d ≡ Some z) × (shown d z ≡ long_vector_of s price d [])
  start-in price d timed h =
      let tests = three-tests d (long_vector_of s price d []) h in
      let sums = SumsGrowth.start-in (settings_of_sums s) price d (vector_of s price (d ∷ [])) tests.0 refl in
      let ends = rest_end_at (cond on d.report (pos 0)) in
      let rested = rest-start on d ∙ ap (λ b. cond b (Some ends) None) (sym (collapsed on (d.report -ℤ d.report) (pos 8_280)) ∙ tests.1) in
      let fit : fits on cap none-kept.periods d ≡ true = subst (λ h. fits on cap h d ≡ true) (sym none-periods) tests.2 in
      let past = kept-step-in on cap none-kept d (λ e. first-follows d timed) (λ e. none-periods) fit in (
        (vector_of s price (d ∷ []), (ends, past.0)),
        three (SumsSteps.opens (settings_of_sums s) price d) (open_rest on d) (open_kept on cap d) (vector_of s price (d ∷ [])) ends past.0 sums rested past.1,
        same-vector (vector_of s price (d ∷ [])) (vector_of s price (d ∷ [])) _ _ _ _ refl (start-shown on d.report) (past.2 ∙ ap (λ h. history-grown on h d) none-periods),
      )

  pub start-out : (price : ℤ) (z : Value) (d : Duty) → started price d ≡ Some z
      → (Locals.is_within_limits s d (long_vector_of s price d []) ≡ true) × (shown d z ≡ long_vector_of s price d [])
  start-out price z d h =
      let k = both_parts (SumsSteps.opens (settings_of_sums s) price d) (both (open_rest on d) (open_kept on cap d)) z h in
      let l = both_parts (open_rest on d) (open_kept on cap d) z.1 k.1 in
      let sums = SumsGrowth.start-out (settings_of_sums s) price d z.0 k.0 in
      let ends = rest_end_at (cond on d.report (pos 0)) in
      let rested = test-out (cond on (int_le (d.report -ℤ d.report) (pos 8_280)) true) ends z.1.0 (sym (rest-start on d) ∙ l.0) in
      let past = kept-step-out on cap none-kept z.1.1 d (λ e. none-periods) l.1 in
      let fit = subst (λ h. fits on cap h d ≡ true) none-periods past.0 in (
        from-tests d (long_vector_of s price d []) sums.0 (collapsed on (d.report -ℤ d.report) (pos 8_280) ∙ rested.0) fit,
        same-vector z.0 (vector_of s price (d ∷ [])) _ _ _ _ sums.1 (ap (λ (x : RestEnd). cond on (d.report -ℤ x.minute) (pos 0)) (sym rested.1) ∙ start-shown on d.report) (past.1 ∙ ap (λ h. history-grown on h d) none-periods),
      )
