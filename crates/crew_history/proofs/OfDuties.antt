-- What histories and last rests tell of lists of duties.
use Rattle.std.proofs.Common.{◌≡◌, Bool, true, false, cond, List, [], ◌∷◌, ◌++◌, map, Some, ℤ, pos, ◌+ℤ◌, ◌⊎◌, inl, inr, refl, sym, ◌∙◌, ap, subst, ⊎_elim, arith}
use Rattle.std.specs.Prelude.{◌-ℤ◌, ◌≤ℤ◌, ◌<ℤ◌, int_le}
use Rattle.std.specs.Int.{int_max, int_min}
use Rattle.std.proofs.lemmas.Int.{ints, clamps}
use Rattle.crew_pairing.specs.Legality.{total}
use Rattle.crew_pairing.specs.Pairings.{last_duty, rest}
use Rattle.crew_pairing.specs.declared.duty.Duty.{Duty}
use Rattle.crew_resource.specs.Members.{Member}
use Rattle.crew_resource.proofs.Snoc.{snoc_cases}
use Rattle.crew_history.specs.Histories.{period_after, minutes_after, minutes_within, IsAfter, IsHistory, KeepsCap, cut, history_from, last_end}
use Rattle.crew_history.specs.Limits.{arrival, fdp_between, KeepsWindows, HasFreeMinutes, IsFreeBeforeReports, IsTimed, AreInOrder, rested_reports, last_of, last_rest_end, since_rest, period_of, history_of}
use Rattle.crew_history.specs.Machinery.Rests as Spans
use Rattle.crew_history.proofs.Histories.{history_after}
use Rattle.crew_history.proofs.HistoryOfList.{history_of_list}
use Rattle.crew_history.proofs.Rests.{rest_found}

-- the minutes of a period between two instants
overlap : (s e a b : ℤ) → s ≤ℤ e → a ≤ℤ b → int_max (pos 0) (int_min e b -ℤ int_max s a) ≡ period_after s e a -ℤ period_after s e b
overlap s e a b h k = omega (arith, ints, clamps)

pub between_is : (a b : ℤ) (first : Duty) (others : List Duty) → AreInOrder first others → a ≤ℤ b
    → total (fdp_between a b) (first ∷ others) ≡ minutes_within (map period_of (first ∷ others)) a b
between_is a b first [] o k = one (fdp_between a b first) (period_after first.report (arrival first) a) (period_after first.report (arrival first) b) (overlap first.report (arrival first) a b (later first o) k)
  where
    later : (d : Duty) → IsTimed d → d.report ≤ℤ arrival d
    later d t = let n = t.nonempty in omega (arith, ints)

    one : (x y z : ℤ) → x ≡ y -ℤ z → x +ℤ pos 0 ≡ (y +ℤ pos 0) -ℤ (z +ℤ pos 0)
    one x y z e = omega (arith, ints)
between_is a b first (next ∷ others) o k = more (fdp_between a b first) (period_after first.report (arrival first) a) (period_after first.report (arrival first) b) (total (fdp_between a b) (next ∷ others)) (minutes_after (map period_of (next ∷ others)) a) (minutes_after (map period_of (next ∷ others)) b) (overlap first.report (arrival first) a b (later first o.0) k) (between_is a b next others o.2 k)
  where
    later : (d : Duty) → IsTimed d → d.report ≤ℤ arrival d
    later d t = let n = t.nonempty in omega (arith, ints)

    more : (x y z t u v : ℤ) → x ≡ y -ℤ z → t ≡ u -ℤ v → x +ℤ t ≡ (y +ℤ u) -ℤ (z +ℤ v)
    more x y z t u v e f = omega (arith, ints)

in_order : (before : ℤ) (first : Duty) (others : List Duty) → before <ℤ first.report → AreInOrder first others → IsAfter before (map period_of (first ∷ others))
in_order before first [] l o = (l, nonempty first o, tt)
  where
    nonempty : (d : Duty) → IsTimed d → d.report <ℤ arrival d
    nonempty d t = let n = t.nonempty in omega (arith, ints)
in_order before first (next ∷ others) l o = (l, nonempty first o.0, in_order (arrival first) next others (after first next o.0 o.1) o.2)
  where
    nonempty : (d : Duty) → IsTimed d → d.report <ℤ arrival d
    nonempty d t = let n = t.nonempty in omega (arith, ints)

    after : (d e : Duty) → IsTimed d → d.release <ℤ e.report → arrival d <ℤ e.report
    after d e t l = let n = t.arrives in omega (arith, ints)

pub is_history : (first : Duty) (others : List Duty) → AreInOrder first others → IsHistory (map period_of (first ∷ others))
is_history first others o = history_after (map period_of (first ∷ others)) (first.report -ℤ pos 1) (in_order (first.report -ℤ pos 1) first others (less first.report) o)
  where
    less : (r : ℤ) → (r -ℤ pos 1) <ℤ r
    less r = omega (arith, ints)

last_end_is : (first : Duty) (others : List Duty) → last_end (arrival first) (map period_of others) ≡ arrival (last_duty first others)
last_end_is first [] = refl
last_end_is first (next ∷ others) = last_end_is next others

-- windows by their begin and by their end
keeps_cap : (cap : ℤ) (first : Duty) (others : List Duty) → AreInOrder first others → KeepsWindows cap (first ∷ others) → KeepsCap (pos 10_080) cap (map period_of (first ∷ others))
keeps_cap cap first others o keeps t =
    let from = t -ℤ pos 10_080 in
    let until : (t -ℤ pos 10_080) +ℤ pos 10_080 ≡ t = omega (arith, ints) in
    let kept : total (fdp_between (t -ℤ pos 10_080) t) (first ∷ others) ≤ℤ cap = subst (λ u. total (fdp_between (t -ℤ pos 10_080) u) (first ∷ others) ≤ℤ cap) until (keeps (t -ℤ pos 10_080)) in
    subst (λ z. z ≤ℤ cap) (between_is (t -ℤ pos 10_080) t first others o (omega (arith, ints))) kept

keeps_windows : (cap : ℤ) (first : Duty) (others : List Duty) → AreInOrder first others → KeepsCap (pos 10_080) cap (map period_of (first ∷ others)) → KeepsWindows cap (first ∷ others)
keeps_windows cap first others o keeps from =
    let start : (from +ℤ pos 10_080) -ℤ pos 10_080 ≡ from = omega (arith, ints) in
    let kept : minutes_within (map period_of (first ∷ others)) from (from +ℤ pos 10_080) ≤ℤ cap =
    subst (λ f. minutes_within (map period_of (first ∷ others)) f (from +ℤ pos 10_080) ≤ℤ cap) start (keeps (from +ℤ pos 10_080)) in
    subst (λ z. z ≤ℤ cap) (sym (between_is from (from +ℤ pos 10_080) first others o (omega (arith, ints)))) kept

pub windows_told : (cap : ℤ) (first : Duty) (others : List Duty) → pos 0 ≤ℤ cap → AreInOrder first others
    → (KeepsWindows cap (first ∷ others) → history_from (pos 10_080) cap [] (map period_of (first ∷ others)) ≡ Some (history_of first others))
    × ((h : List (ℤ × ℤ)) → history_from (pos 10_080) cap [] (map period_of (first ∷ others)) ≡ Some h → KeepsWindows cap (first ∷ others))
windows_told cap first others c o =
    let k = history_of_list (pos 10_080) cap (let q : pos 0 ≤ℤ pos 10_080 = omega (arith, ints) in q) c (period_of first) (map period_of others) (is_history first others o) in (
      λ keeps.
          k.0 (keeps_cap cap first others o keeps) ∙ ap (λ e. Some (cut (e -ℤ pos 10_080) (map period_of (first ∷ others)))) (last_end_is first others),
      λ h e. keeps_windows cap first others o (k.1 h e),
    )

-- rests, with duties as (report, release)
abbrev span_of : Duty → ℤ × ℤ
span_of d = (d.report, d.release)

choose : (b : Bool) (rested report : ℤ) (reports : List ℤ) → last_of rested (cond b (report ∷ reports) reports) ≡ last_of (cond b report rested) reports
choose true rested report reports = refl
choose false rested report reports = refl

rest_end_is : (rested : ℤ) (last : Duty) (before : List Duty) (d : Duty)
    → last_of rested (rested_reports last (before ++ d ∷ [])) ≡ Spans.rested_from (pos 1_800) rested last.release (map span_of before) d.report
rest_end_is rested last [] d = choose (int_le (pos 1_800) (rest last d)) rested d.report []
rest_end_is rested last (next ∷ before) d =
    choose (int_le (pos 1_800) (rest last next)) rested next.report (rested_reports next (before ++ d ∷ []))
    ∙ rest_end_is (Spans.rested_after (pos 1_800) rested last.release next.report) next before d

last_is : (first : Duty) (before : List Duty) (d : Duty) → last_duty first (before ++ d ∷ []) ≡ d
last_is first [] d = refl
last_is first (next ∷ before) d = last_is next before d

pub lasts : (d : Duty) → IsTimed d → d.report ≤ℤ d.release
lasts d t = let n = t.nonempty in let a = t.arrives in omega (arith, ints)

pub head_timed : (first : Duty) (others : List Duty) → AreInOrder first others → IsTimed first
head_timed first [] o = o
head_timed first (next ∷ others) o = o.0

weak : (a b : ℤ) → a <ℤ b → a ≤ℤ b
weak a b h = omega (arith, ints)

before_report : (first : Duty) (before : List Duty) (d : Duty) (after : List Duty) → AreInOrder first (before ++ d ∷ after) → Spans.AreBefore first.release (map span_of before) d.report
before_report first [] d after o = weak first.release d.report o.1
before_report first (next ∷ before) d after o = (weak first.release next.report o.1, lasts next (head_timed next (before ++ d ∷ after) o.2), before_report next before d after o.2)

-- no duty reports before the first
pub all_later : (first : Duty) (others : List Duty) → AreInOrder first others → (x : Duty) → Member (first ∷ others) x → first.report ≤ℤ x.report
all_later first others o x (inl e) = subst (λ z. first.report ≤ℤ z.report) e (itself first.report)
  where
    itself : (r : ℤ) → r ≤ℤ r
    itself r = omega (arith, ints)
all_later first [] o x (inr m) = absurd m
all_later first (next ∷ others) o x (inr m) = through (lasts first o.0) o.1 (all_later next others o.2 x m)
  where
    through : {a b c d : ℤ} → a ≤ℤ b → b <ℤ c → c ≤ℤ d → a ≤ℤ d
    through h k l = omega (arith, ints)

tail_in_order : (first : Duty) (before : List Duty) (d : Duty) (after : List Duty) → AreInOrder first (before ++ d ∷ after) → AreInOrder d after
tail_in_order first [] d after o = o.2
tail_in_order first (next ∷ before) d after o = tail_in_order next before d after o.2

-- a member of a joined list, and where a member stands
either_part : (before after : List Duty) (x : Duty) → Member (before ++ after) x → Member before x ⊎ Member after x
either_part [] after x m = inr m
either_part (b ∷ before) after x (inl e) = inl (inl e)
either_part (b ∷ before) after x (inr m) = ⊎_elim (λ h. inl (inr h)) inr (either_part before after x m)

in_first_part : (before after : List Duty) (x : Duty) → Member before x → Member (before ++ after) x
in_first_part (b ∷ before) after x (inl e) = inl e
in_first_part (b ∷ before) after x (inr m) = inr (in_first_part before after x m)
in_first_part [] after x m = absurd m

place_of : (duties : List Duty) (d : Duty) → Member duties d → (before : List Duty) × (after : List Duty) × (before ++ d ∷ after ≡ duties)
place_of [] d m = absurd m
place_of (b ∷ duties) d (inl e) = ([], duties, ap (λ z. z ∷ duties) (sym e))
place_of (b ∷ duties) d (inr m) = let k = place_of duties d m in (b ∷ k.0, k.1, ap (λ z. b ∷ z) k.2)

span_member : (duties : List Duty) (x : Duty) → Member duties x → Member (map span_of duties) (span_of x)
span_member (b ∷ duties) x (inl e) = inl (ap span_of e)
span_member (b ∷ duties) x (inr m) = inr (span_member duties x m)
span_member [] x m = absurd m

span_out : (duties : List Duty) (p : ℤ × ℤ) → Member (map span_of duties) p → (x : Duty) × Member duties x × (span_of x ≡ p)
span_out [] p m = absurd m
span_out (b ∷ duties) p (inl e) = (b, inl refl, e)
span_out (b ∷ duties) p (inr m) = let k = span_out duties p m in (k.0, inr k.1, k.2)

module _ (first : Duty) (before : List Duty) (d : Duty) (after : List Duty) (o : AreInOrder first (before ++ d ∷ after)) where
  -- whoever is free before a report is so whatever comes after it
  rest_of_spans : HasFreeMinutes first (before ++ d ∷ after) d.report → Spans.HasRest (pos 1_800) (pos 10_080) (span_of first) (map span_of before) d.report
  rest_of_spans h = (
    h.0,
    h.1,
    h.2,
    h.3,
    λ p m.
        let k = span_out (first ∷ before) p m in
        subst (λ z. (z.1 ≤ℤ h.0) ⊎ ((h.0 +ℤ pos 1_800) ≤ℤ z.0)) k.2
        (h.4 k.0 (in_first_part (first ∷ before) (d ∷ after) k.0 k.1)),
  )

  spans_rest : Spans.HasRest (pos 1_800) (pos 10_080) (span_of first) (map span_of before) d.report → HasFreeMinutes first (before ++ d ∷ after) d.report
  spans_rest h = (
    h.0,
    h.1,
    h.2,
    h.3,
    λ x m. ⊎_elim
        (λ k. h.4 (span_of x) (span_member (first ∷ before) x k))
        (λ k. inr (through h.3 (all_later d after (tail_in_order first before d after o) x k)))
        (either_part (first ∷ before) (d ∷ after) x m),
  )
    where
      through : {a b c : ℤ} → a ≤ℤ b → b ≤ℤ c → a ≤ℤ c
      through h k = omega (arith, ints)

  since_is : since_rest first (before ++ d ∷ []) ≡ d.report -ℤ Spans.rested_from (pos 1_800) first.report first.release (map span_of before) d.report
  since_is = ap (λ z. z.report -ℤ last_rest_end first (before ++ d ∷ [])) (last_is first before d)
      ∙ ap (λ z. d.report -ℤ z) (rest_end_is first.report first before d)

  found : (Spans.HasRest (pos 1_800) (pos 10_080) (span_of first) (map span_of before) d.report
      → (d.report -ℤ Spans.rested_from (pos 1_800) first.report first.release (map span_of before) d.report) ≤ℤ (pos 10_080 -ℤ pos 1_800))
      × ((d.report -ℤ Spans.rested_from (pos 1_800) first.report first.release (map span_of before) d.report) ≤ℤ (pos 10_080 -ℤ pos 1_800)
      → Spans.HasRest (pos 1_800) (pos 10_080) (span_of first) (map span_of before) d.report)
  found = rest_found (pos 1_800) (pos 10_080) (span_of first) (map span_of before) d.report (let q : pos 0 ≤ℤ pos 1_800 = omega (arith, ints) in q)
      (lasts first (head_timed first (before ++ d ∷ after) o)) (before_report first before d after o)

  pub since_from_free : HasFreeMinutes first (before ++ d ∷ after) d.report → since_rest first (before ++ d ∷ []) ≤ℤ pos 8_280
  since_from_free h = subst (λ z. z ≤ℤ pos 8_280) (sym since_is) (found.0 (rest_of_spans h))

  pub free_from_since : since_rest first (before ++ d ∷ []) ≤ℤ pos 8_280 → HasFreeMinutes first (before ++ d ∷ after) d.report
  free_from_since h = spans_rest (found.1 (subst (λ z. z ≤ℤ pos 8_280) since_is h))

member_there : (before : List Duty) (d : Duty) (after : List Duty) → Member (before ++ d ∷ after) d
member_there [] d after = inl refl
member_there (b ∷ before) d after = inr (member_there before d after)

regrouped : (before : List Duty) (d : Duty) (after : List Duty) → (before ++ d ∷ []) ++ after ≡ before ++ d ∷ after
regrouped [] d after = refl
regrouped (b ∷ before) d after = ap (λ z. b ∷ z) (regrouped before d after)

first_free : (first : Duty) (others : List Duty) → AreInOrder first others → HasFreeMinutes first others first.report
first_free first others o = (
  first.report -ℤ pos 1_800,
  itself (first.report -ℤ pos 1_800),
  within first.report,
  ends first.report,
  λ x m. inr (late first.report x.report (all_later first others o x m)),
)
  where
    itself : (r : ℤ) → r ≤ℤ r
    itself r = omega (arith, ints)

    within : (r : ℤ) → (r -ℤ pos 10_080) ≤ℤ (r -ℤ pos 1_800)
    within r = omega (arith, ints)

    ends : (r : ℤ) → ((r -ℤ pos 1_800) +ℤ pos 1_800) ≤ℤ r
    ends r = omega (arith, ints)

    late : (r s : ℤ) → r ≤ℤ s → ((r -ℤ pos 1_800) +ℤ pos 1_800) ≤ℤ s
    late r s h = omega (arith, ints)

-- free minutes lie before each report where the last long rest ended late enough at each
pub free_minutes_told : (first : Duty) (others : List Duty) → AreInOrder first others
    → (IsFreeBeforeReports first others → (before after : List Duty) → before ++ after ≡ others → since_rest first before ≤ℤ pos 8_280)
    × (((before after : List Duty) → before ++ after ≡ others → since_rest first before ≤ℤ pos 8_280) → IsFreeBeforeReports first others)
free_minutes_told first others o = (
  λ free before after whole. ⊎_elim {C = since_rest first before ≤ℤ pos 8_280}
      (λ none. subst (λ z. since_rest first z ≤ℤ pos 8_280) (sym none) (nothing first.report))
      (λ s.
      let split : s.0 ++ s.1 ∷ after ≡ others = sym (regrouped s.0 s.1 after) ∙ (ap (λ z. z ++ after) (sym s.2) ∙ whole) in
      let there : Member (first ∷ others) s.1 = inr (subst (λ z. Member z s.1) split (member_there s.0 s.1 after)) in
      let in_order' : AreInOrder first (s.0 ++ s.1 ∷ after) = subst (AreInOrder first) (sym split) o in
      let has : HasFreeMinutes first (s.0 ++ s.1 ∷ after) s.1.report = subst (λ z. HasFreeMinutes first z s.1.report) (sym split) (free s.1 there) in
      subst (λ z. since_rest first z ≤ℤ pos 8_280) (sym s.2) (since_from_free first s.0 s.1 after in_order' has))
      (snoc_cases before),
  λ each d. ⊎_elim {C = HasFreeMinutes first others d.report}
      (λ e. subst (λ z. HasFreeMinutes first others z.report) e (first_free first others o))
      (λ m.
      let k = place_of others d m in
      let in_order' : AreInOrder first (k.0 ++ d ∷ k.1) = subst (AreInOrder first) (sym k.2) o in
      subst (λ z. HasFreeMinutes first z d.report) k.2
      (free_from_since first k.0 d k.1 in_order' (each (k.0 ++ d ∷ []) k.1 (regrouped k.0 d k.1 ∙ k.2)))),
)
  where
    nothing : (r : ℤ) → (r -ℤ r) ≤ℤ pos 8_280
    nothing r = omega (arith, ints)
