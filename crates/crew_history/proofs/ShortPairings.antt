-- Partial pairings of at most 138 hours: one window covers them, and the free minutes before the first report.
use Rattle.std.proofs.Common.{◌≡◌, ℕ, min, ◌≤◌, Bool, true, ◌&&◌, List, [], ◌∷◌, ℤ, pos, ◌+ℤ◌, length, inl, inr, ◌∙◌, ap, subst, arith}
use Rattle.std.specs.Prelude.{◌-ℤ◌, ◌≤ℤ◌, ◌<ℤ◌, int_le}
use Rattle.std.specs.Int.{int_max, int_min}
use Rattle.std.proofs.lemmas.Bool.{and_parts, and_from}
use Rattle.std.proofs.lemmas.Int.{ints, clamps}
use Rattle.crew_pairing.specs.crew_flights.Timetable.{IsSound, Timetable}
use Rattle.crew_pairing.specs.crew_rules.Settings.{fdp_most}
use Rattle.crew_pairing.specs.crew_rules.declared.settings.Settings.{Settings}
use Rattle.crew_pairing.specs.Duties.{flights_of}
use Rattle.crew_pairing.specs.Legality.{total}
use Rattle.crew_pairing.specs.Pairings.{IsPartial, last_duty, minutes_away}
use Rattle.crew_pairing.specs.declared.duty.Duty.{Duty}
use Rattle.crew_resource.specs.Members.{Member}
use Rattle.crew_history.specs.Limits.{AreInOrder, IsFreeBeforeReports, IsTimed, arrival, fdp_between, keeps_total}
use Rattle.crew_history.specs.LongPairings.{IsLongPartial}
use Rattle.crew_history.proofs.LegalOrder.{in_order}
use Rattle.crew_history.proofs.OfDuties.{all_later, head_timed, lasts}

le_is : (a b : ℤ) → int_le a b ≡ true → a ≤ℤ b
le_is a b h = grind (arith, ints)

le_yes : (a b : ℤ) → a ≤ℤ b → int_le a b ≡ true
le_yes a b h = grind (arith, ints)

part : (r f a b : ℤ) → pos 0 <ℤ f → a ≤ℤ b → int_max (pos 0) (int_min (r +ℤ f) b -ℤ int_max r a) ≤ℤ f
part r f a b h k = omega (arith, ints, clamps)

whole : (r f a b : ℤ) → pos 0 <ℤ f → a ≤ℤ r → (r +ℤ f) ≤ℤ b → int_max (pos 0) (int_min (r +ℤ f) b -ℤ int_max r a) ≡ f
whole r f a b h k l = omega (arith, ints, clamps)

sum_part : (x f y g : ℤ) → x ≤ℤ f → y ≤ℤ g → (x +ℤ y) ≤ℤ (f +ℤ g)
sum_part x f y g h k = omega (arith, ints)

-- no window has more than all
within_all : (a b : ℤ) (first : Duty) (others : List Duty) → AreInOrder first others → a ≤ℤ b
    → total (fdp_between a b) (first ∷ others) ≤ℤ total (λ d. d.fdp) (first ∷ others)
within_all a b first [] o k = sum_part (fdp_between a b first) first.fdp (pos 0) (pos 0) (part first.report first.fdp a b o.nonempty k) (omega (arith, ints))
within_all a b first (next ∷ others) o k =
    sum_part (fdp_between a b first) first.fdp (total (fdp_between a b) (next ∷ others)) (total (λ d. d.fdp) (next ∷ others))
    (part first.report first.fdp a b (o.0).nonempty k) (within_all a b next others o.2 k)

last_later : (first : Duty) (others : List Duty) → AreInOrder first others → first.release ≤ℤ (last_duty first others).release
last_later first [] o = itself first.release
  where
    itself : (r : ℤ) → r ≤ℤ r
    itself r = omega (arith, ints)
last_later first (next ∷ others) o = through first.release next.report next.release (last_duty next others).release o.1 (lasts next (head_timed next others o.2)) (last_later next others o.2)
  where
    through : (a b c d : ℤ) → a <ℤ b → b ≤ℤ c → c ≤ℤ d → a ≤ℤ d
    through a b c d h k l = omega (arith, ints)

-- a window that covers the list has all
covers_all : (a b : ℤ) (first : Duty) (others : List Duty) → AreInOrder first others → a ≤ℤ first.report → (last_duty first others).release ≤ℤ b
    → total (fdp_between a b) (first ∷ others) ≡ total (λ d. d.fdp) (first ∷ others)
covers_all a b first [] o h k = ap (λ z. z +ℤ pos 0) (whole first.report first.fdp a b o.nonempty h (ends first o k))
  where
    ends : (d : Duty) → IsTimed d → d.release ≤ℤ b → arrival d ≤ℤ b
    ends d t l = let e = t.arrives in omega (arith, ints)
covers_all a b first (next ∷ others) o h k =
    ap (λ z. z +ℤ total (fdp_between a b) (next ∷ others)) (whole first.report first.fdp a b (o.0).nonempty h (ends first o.0 (last_later first (next ∷ others) o) k))
    ∙ ap (λ z. first.fdp +ℤ z) (covers_all a b next others o.2 (through a first.report first.release next.report h (lasts first o.0) o.1) k)
  where
    ends : (d : Duty) → IsTimed d → d.release ≤ℤ (last_duty next others).release → (last_duty next others).release ≤ℤ b → arrival d ≤ℤ b
    ends d t l m = let e = t.arrives in omega (arith, ints)

    through : (a b c d : ℤ) → a ≤ℤ b → b ≤ℤ c → c <ℤ d → a ≤ℤ d
    through a b c d h k l = omega (arith, ints)

-- each duty reports before the last release
reports_within : (first : Duty) (others : List Duty) → AreInOrder first others → (d : Duty) → Member (first ∷ others) d → d.report ≤ℤ (last_duty first others).release
reports_within first others o d (inl e) = subst (λ z. z.report ≤ℤ (last_duty first others).release) e
    (through first.report first.release (last_duty first others).release (lasts first (head_timed first others o)) (last_later first others o))
  where
    through : (a b c : ℤ) → a ≤ℤ b → b ≤ℤ c → a ≤ℤ c
    through a b c h k = omega (arith, ints)
reports_within first [] o d (inr m) = absurd m
reports_within first (next ∷ others) o d (inr m) = reports_within next others o.2 d m

under-cap : (x : ℤ) (a b : ℕ) → x ≤ℤ pos (min a b) → x ≤ℤ pos a
under-cap x a b h = omega (arith, ints, h)

under-total : (x : ℤ) (a b : ℕ) → x ≤ℤ pos (min a b) → x ≤ℤ pos b
under-total x a b h = omega (arith, ints, h)

under-both : (x : ℤ) (a b : ℕ) → x ≤ℤ pos a → x ≤ℤ pos b → x ≤ℤ pos (min a b)
under-both x a b h k = omega (arith, ints, h, k)

module _ (s : Settings) (t : Timetable) (base : List ℕ) (first : Duty) (others : List Duty) (sound : IsSound t)
    (short : s.away_cap ≤ 8_280) where
  spans : (a r c : ℤ) (cap : ℕ) → int_le (r -ℤ a) (pos cap) ≡ true → cap ≤ 8_280 → r ≤ℤ (a +ℤ pos 8_280)
  spans a r c cap h k = let q = le_is (r -ℤ a) (pos cap) h in omega (arith, ints, k)

  abbrev Rest : Bool
  Rest = int_le (total (λ d. d.fly) (first ∷ others)) (pos s.fly_cap)
      && (int_le (pos (length (first ∷ others))) (pos s.max_duties)
      && int_le (minutes_away (first ∷ others)) (pos s.away_cap))

  ends_soon : Rest ≡ true → (last_duty first others).release ≤ℤ (first.report +ℤ pos 8_280)
  ends_soon e =
      let k = and_parts (int_le (total (λ d. d.fly) (first ∷ others)) (pos s.fly_cap)) (int_le (pos (length (first ∷ others))) (pos s.max_duties) && int_le (minutes_away (first ∷ others)) (pos s.away_cap)) e in
      let l = and_parts (int_le (pos (length (first ∷ others))) (pos s.max_duties)) (int_le (minutes_away (first ∷ others)) (pos s.away_cap)) k.1 in
      spans first.report (last_duty first others).release (pos 0) s.away_cap l.1 short

  free_before : AreInOrder first others → (last_duty first others).release ≤ℤ (first.report +ℤ pos 8_280) → IsFreeBeforeReports first others
  free_before o soon d m =
      let late = reports_within first others o d m in
      let early = all_later first others o d m in (
        first.report -ℤ pos 1_800,
        itself first.report,
        near first.report (last_duty first others).release d.report soon late,
        ends first.report d.report early,
        λ x n. inr (ends first.report x.report (all_later first others o x n)),
      )
    where
      itself : (r : ℤ) → (r -ℤ pos 1_800) ≤ℤ (r -ℤ pos 1_800)
      itself r = omega (arith, ints)

      near : (a l r : ℤ) → l ≤ℤ (a +ℤ pos 8_280) → r ≤ℤ l → (r -ℤ pos 10_080) ≤ℤ (a -ℤ pos 1_800)
      near a l r h k = omega (arith, ints)

      ends : (a r : ℤ) → a ≤ℤ r → ((a -ℤ pos 1_800) +ℤ pos 1_800) ≤ℤ r
      ends a r h = omega (arith, ints)

  through : (a b c : ℤ) → a ≤ℤ b → b ≤ℤ c → a ≤ℤ c
  through a b c h k = omega (arith, ints)

  pub long_from_short : IsPartial s (flights_of t) base first others → IsLongPartial s (flights_of t) base first others
  long_from_short p =
      let o = in_order s t first others sound p.legal p.rested in
      let k = and_parts (int_le (total (λ d. d.fdp) (first ∷ others)) (pos (fdp_most s))) Rest p.capped in
      let both = le_is (total (λ d. d.fdp) (first ∷ others)) (pos (fdp_most s)) k.0 in
      let few = under-cap (total (λ d. d.fdp) (first ∷ others)) s.fdp_cap s.fdp_total both in
      record {
        legal = p.legal;
        leaves = p.leaves;
        rested = p.rested;
        capped = and_from (keeps_total (pos s.fdp_total) (first ∷ others)) Rest
            (le_yes (total (λ d. d.fdp) (first ∷ others)) (pos s.fdp_total) (under-total (total (λ d. d.fdp) (first ∷ others)) s.fdp_cap s.fdp_total both)) k.1;
        windows = λ from.
            through (total (fdp_between from (from +ℤ pos 10_080)) (first ∷ others)) (total (λ d. d.fdp) (first ∷ others)) (pos s.fdp_cap)
            (within_all from (from +ℤ pos 10_080) first others o (omega (arith, ints))) few;
        free = free_before o (ends_soon k.1);
      }

  pub short_from_long : IsLongPartial s (flights_of t) base first others → IsPartial s (flights_of t) base first others
  short_from_long p =
      let o = in_order s t first others sound p.legal p.rested in
      let k = and_parts (keeps_total (pos s.fdp_total) (first ∷ others)) Rest p.capped in
      let few = le_is (total (λ d. d.fdp) (first ∷ others)) (pos s.fdp_total) k.0 in
      let soon = ends_soon k.1 in
      let all = covers_all first.report (first.report +ℤ pos 10_080) first others o (omega (arith, ints)) (further first.report (last_duty first others).release soon) in
      record {
        legal = p.legal;
        leaves = p.leaves;
        rested = p.rested;
        capped = and_from (int_le (total (λ d. d.fdp) (first ∷ others)) (pos (fdp_most s))) Rest
            (le_yes (total (λ d. d.fdp) (first ∷ others)) (pos (fdp_most s))
            (under-both (total (λ d. d.fdp) (first ∷ others)) s.fdp_cap s.fdp_total (subst (λ z. z ≤ℤ pos s.fdp_cap) all (p.windows first.report)) few)) k.1;
      }
    where
      further : (a r : ℤ) → r ≤ℤ (a +ℤ pos 8_280) → r ≤ℤ (a +ℤ pos 10_080)
      further a r h = omega (arith, ints)
