-- The windows and the free minutes of a list of duties are told by its beginnings, each tested where it ends.
use Rattle.std.proofs.Common.{◌≡◌, ℕ, true, List, [], ◌∷◌, ◌++◌, map, ℤ, pos, ◌+ℤ◌, inl, inr, refl, sym, ◌∙◌, ap, subst, ⊎_elim, arith, append_assoc, append-nil}
use Rattle.std.specs.Prelude.{◌-ℤ◌, ◌≤ℤ◌, ◌<ℤ◌, int_le}
use Rattle.std.specs.Int.{int_max, int_min}
use Rattle.std.proofs.lemmas.Bool.{and_from, and_parts}
use Rattle.std.proofs.lemmas.Int.{ints, clamps}
use Rattle.crew_flights.specs.Timetable.{IsSound, Timetable}
use Rattle.crew_rules.specs.declared.settings.Settings.{Settings}
use Rattle.crew_pairing.specs.Duties.{flights_of}
use Rattle.crew_pairing.specs.Flights.{Flights}
use Rattle.crew_pairing.specs.Legality.{total}
use Rattle.crew_pairing.specs.Pairings.{AllRested, IsDuty, last_duty}
use Rattle.crew_pairing.specs.declared.duty.Duty.{Duty}
use Rattle.crew_pairing.proofs.Sums.{total-append}
use Rattle.crew_resource.specs.Members.{Each, Member}
use Rattle.crew_resource.proofs.Snoc.{same_snoc, snoc_cases}
use Rattle.crew_history.specs.Histories.{KeepsCap, minutes_within}
use Rattle.crew_history.specs.Limits.{AreInOrder, KeepsWindows, arrival, fdp_between, period_of}
use Rattle.crew_history.specs.LongPairings.{IsLongPartial}
use Rattle.crew_history.proofs.Histories.{ends_suffice}
use Rattle.crew_history.proofs.LegalOrder.{in_order}
use Rattle.crew_history.proofs.OfDuties.{between_is, free_minutes_told, head_timed, is_history, lasts}
use Rattle.crew_audit.specs.Machinery.Endings.{keeps_limits, last_window, since_last_rest, window_to}
use Rattle.crew_audit.specs.Machinery.Listing.{keeps_totals}

-- each beginning keeps the limits where it ends
abbrev pub AllKeep : Settings → Duty → List Duty → Type 0
AllKeep s first others = (before after : List Duty) → before ++ after ≡ others → keeps_limits s (first ∷ before) ≡ true

-- a partial pairing, as the search tests it
pub record IsTested (s : Settings) (flights : Flights) (base : List ℕ) (first : Duty) (others : List Duty) : Type 0 where
  pub legal : Each (IsDuty s flights) (first ∷ others)
  pub leaves : first.from ≡ base
  pub rested : AllRested s first others
  pub capped : keeps_totals s (first ∷ others) ≡ true
  pub ends : AllKeep s first others

int-yes : (m n : ℤ) → m ≤ℤ n → int_le m n ≡ true
int-yes m n h = grind (arith, ints)

int-le : (m n : ℤ) → int_le m n ≡ true → m ≤ℤ n
int-le m n h = grind (arith, ints)

-- a duty alone, and one duty more
no-less : {X : Type 0} (xs ys : List X) → xs ++ ys ≡ [] → xs ≡ []
no-less [] ys e = refl
no-less (x ∷ xs) ys e = absurd (let q : ⊥ = (cc) in q)

pub ends-one : (s : Settings) (d : Duty) → keeps_limits s (d ∷ []) ≡ true → AllKeep s d []
ends-one s d last before after whole = subst (λ (ds : List Duty). keeps_limits s (d ∷ ds) ≡ true) (sym (no-less before after whole)) last

pub ends-push : (s : Settings) (first : Duty) (others : List Duty) (d : Duty) → AllKeep s first others → keeps_limits s (first ∷ others ++ d ∷ []) ≡ true → AllKeep s first (others ++ d ∷ [])
ends-push s first others d all last before after whole =
    ⊎_elim {C = keeps_limits s (first ∷ before) ≡ true}
    (λ none.
    let same : before ≡ others ++ d ∷ [] = sym (append-nil before) ∙ (ap (λ (ds : List Duty). before ++ ds) (sym none) ∙ whole) in
    subst (λ (ds : List Duty). keeps_limits s (first ∷ ds) ≡ true) (sym same) last)
    (λ k.
    let joined : (before ++ k.0) ++ k.1 ∷ [] ≡ others ++ d ∷ [] = append_assoc before k.0 (k.1 ∷ []) ∙ (ap (λ (ds : List Duty). before ++ ds) (sym k.2) ∙ whole) in
    all before k.0 (same_snoc (before ++ k.0) others k.1 d joined).0)
    (snoc_cases after)

-- of a window that ends with a beginning, later duties have nothing
positive : (x : ℤ) → pos 0 ≤ℤ int_max (pos 0) x
positive x = omega (arith, ints, clamps)

none-less : (a b : ℤ) (ds : List Duty) → pos 0 ≤ℤ total (fdp_between a b) ds
none-less a b [] = omega (arith, ints)
none-less a b (d ∷ ds) = both (fdp_between a b d) (total (fdp_between a b) ds) (positive (int_min (arrival d) b -ℤ int_max d.report a)) (none-less a b ds)
  where
    both : (x y : ℤ) → pos 0 ≤ℤ x → pos 0 ≤ℤ y → pos 0 ≤ℤ (x +ℤ y)
    both x y h k = omega (arith, ints)

outside : (report fdp a e : ℤ) → e ≤ℤ report → int_max (pos 0) (int_min (report +ℤ fdp) e -ℤ int_max report a) ≡ pos 0
outside report fdp a e h = omega (arith, ints, clamps)

none-after : (a e : ℤ) (first : Duty) (after : List Duty) → AreInOrder first after → e ≤ℤ first.release → total (fdp_between a e) after ≡ pos 0
none-after a e first [] o h = refl
none-after a e first (next ∷ after) o h =
    let early = earlier e first.release next.report h o.1 in
    let own : fdp_between a e next ≡ pos 0 = outside next.report next.fdp a e early in
    let more = none-after a e next after o.2 (on e next.report next.release early (lasts next (head_timed next after o.2))) in
    zero (fdp_between a e next) (total (fdp_between a e) after) own more
  where
    earlier : (x y z : ℤ) → x ≤ℤ y → y <ℤ z → x ≤ℤ z
    earlier x y z h k = omega (arith, ints)

    on : (x y z : ℤ) → x ≤ℤ y → y ≤ℤ z → x ≤ℤ z
    on x y z h k = omega (arith, ints)

    zero : (x y : ℤ) → x ≡ pos 0 → y ≡ pos 0 → x +ℤ y ≡ pos 0
    zero x y h k = omega (arith, ints)

none-behind : (a : ℤ) (first : Duty) (before after : List Duty) → AreInOrder first (before ++ after) → total (fdp_between a (arrival (last_duty first before))) after ≡ pos 0
none-behind a first [] after o = let arrives = (head_timed first after o).arrives in none-after a (arrival first) first after o arrives
none-behind a first (next ∷ before) after o = none-behind a next before after o.2

window-whole : (first : Duty) (before after : List Duty) → AreInOrder first (before ++ after) → window_to (arrival (last_duty first before)) (first ∷ before ++ after) ≡ last_window (first ∷ before)
window-whole first before after o =
    let end = arrival (last_duty first before) in
    let joined = total-append (fdp_between (end -ℤ pos 10_080) end) (first ∷ before) after in
    alone (last_window (first ∷ before)) (total (fdp_between (end -ℤ pos 10_080) end) after) (window_to end (first ∷ before ++ after)) joined (none-behind (end -ℤ pos 10_080) first before after o)
  where
    alone : (x y z : ℤ) → z ≡ x +ℤ y → y ≡ pos 0 → z ≡ x
    alone x y z h k = omega (arith, ints)

-- where every window keeps the cap, the last one of each beginning does
window-kept : (cap : ℤ) (first : Duty) (before after : List Duty) → KeepsWindows cap (first ∷ before ++ after) → last_window (first ∷ before) ≤ℤ cap
window-kept cap first before after keeps =
    let end = arrival (last_duty first before) in
    let until : (end -ℤ pos 10_080) +ℤ pos 10_080 ≡ end = back end in
    let kept : window_to end (first ∷ before ++ after) ≤ℤ cap = subst (λ u. total (fdp_between (end -ℤ pos 10_080) u) (first ∷ before ++ after) ≤ℤ cap) until (keeps (end -ℤ pos 10_080)) in
    let joined = total-append (fdp_between (end -ℤ pos 10_080) end) (first ∷ before) after in
    part (window_to end (first ∷ before ++ after)) (last_window (first ∷ before)) (total (fdp_between (end -ℤ pos 10_080) end) after) kept joined (none-less (end -ℤ pos 10_080) end after)
  where
    back : (e : ℤ) → (e -ℤ pos 10_080) +ℤ pos 10_080 ≡ e
    back e = omega (arith, ints)

    part : (z x y : ℤ) → z ≤ℤ cap → z ≡ x +ℤ y → pos 0 ≤ℤ y → x ≤ℤ cap
    part z x y h k l = omega (arith, ints)

-- and the other way round: of the windows only those need testing that end with an arrival
beginning-of : (first : Duty) (others : List Duty) (p : ℤ × ℤ) → Member (map period_of (first ∷ others)) p → (before : List Duty) × (after : List Duty) × (before ++ after ≡ others) × (period_of (last_duty first before) ≡ p)
beginning-of first others p (inl e) = ([], others, refl, e)
beginning-of first [] p (inr m) = absurd m
beginning-of first (next ∷ others) p (inr m) = let k = beginning-of next others p m in (next ∷ k.0, k.1, ap (λ (ds : List Duty). next ∷ ds) k.2, k.3)

window-of : (cap : ℤ) (first : Duty) (others before after : List Duty) → before ++ after ≡ others → AreInOrder first others → last_window (first ∷ before) ≤ℤ cap
    → minutes_within (map period_of (first ∷ others)) (arrival (last_duty first before) -ℤ pos 10_080) (arrival (last_duty first before)) ≤ℤ cap
window-of cap first others before after whole o kept =
    let end = arrival (last_duty first before) in
    let here : AreInOrder first (before ++ after) = subst (AreInOrder first) (sym whole) o in
    let all : window_to end (first ∷ others) ≡ last_window (first ∷ before) = ap (λ (ds : List Duty). window_to end (first ∷ ds)) (sym whole) ∙ window-whole first before after here in
    subst (λ z. z ≤ℤ cap) (sym all ∙ between_is (end -ℤ pos 10_080) end first others o (begins end)) kept
  where
    begins : (e : ℤ) → (e -ℤ pos 10_080) ≤ℤ e
    begins e = omega (arith, ints)

windows-kept : (cap : ℤ) (first : Duty) (others : List Duty) → pos 0 ≤ℤ cap → AreInOrder first others → ((before after : List Duty) → before ++ after ≡ others → last_window (first ∷ before) ≤ℤ cap)
    → KeepsWindows cap (first ∷ others)
windows-kept cap first others c o each from =
    let start : (from +ℤ pos 10_080) -ℤ pos 10_080 ≡ from = back from in
    let kept : minutes_within (map period_of (first ∷ others)) from (from +ℤ pos 10_080) ≤ℤ cap =
    subst (λ f. minutes_within (map period_of (first ∷ others)) f (from +ℤ pos 10_080) ≤ℤ cap) start (all (from +ℤ pos 10_080)) in
    subst (λ z. z ≤ℤ cap) (sym (between_is from (from +ℤ pos 10_080) first others o (ends from))) kept
  where
    back : (f : ℤ) → (f +ℤ pos 10_080) -ℤ pos 10_080 ≡ f
    back f = omega (arith, ints)

    ends : (f : ℤ) → f ≤ℤ (f +ℤ pos 10_080)
    ends f = omega (arith, ints)

    all : KeepsCap (pos 10_080) cap (map period_of (first ∷ others))
    all = ends_suffice (pos 10_080) cap (map period_of (first ∷ others)) (is_history first others o) (let q : pos 0 ≤ℤ pos 10_080 = omega (arith, ints) in q) c
        (λ p m.
        let k = beginning-of first others p m in
        subst (λ (q : ℤ × ℤ). minutes_within (map period_of (first ∷ others)) (q.1 -ℤ pos 10_080) q.1 ≤ℤ cap) k.3 (window-of cap first others k.0 k.1 k.2 o (each k.0 k.1 k.2)))

-- a partial pairing is one as the search tests it
pub tested-long : (s : Settings) (t : Timetable) (base : List ℕ) (first : Duty) (others : List Duty) → IsSound t → IsLongPartial s (flights_of t) base first others
    → IsTested s (flights_of t) base first others
tested-long s t base first others sound p =
    let o = in_order s t first others sound p.legal p.rested in
    let since = (free_minutes_told first others o).0 p.free in
    record {
      legal = p.legal;
      leaves = p.leaves;
      rested = p.rested;
      capped = p.capped;
      ends = λ before after whole.
          let windows = subst (λ (ds : List Duty). KeepsWindows (pos s.fdp_cap) (first ∷ ds)) (sym whole) p.windows in
          and_from _ _ (int-yes (last_window (first ∷ before)) (pos s.fdp_cap) (window-kept (pos s.fdp_cap) first before after windows))
          (int-yes (since_last_rest (first ∷ before)) (pos 8_280) (since before after whole));
    }

pub long-tested : (s : Settings) (t : Timetable) (base : List ℕ) (first : Duty) (others : List Duty) → IsSound t → IsTested s (flights_of t) base first others
    → IsLongPartial s (flights_of t) base first others
long-tested s t base first others sound p =
    let o = in_order s t first others sound p.legal p.rested in
    record {
      legal = p.legal;
      leaves = p.leaves;
      rested = p.rested;
      capped = p.capped;
      windows = windows-kept (pos s.fdp_cap) first others (let q : pos 0 ≤ℤ pos s.fdp_cap = omega (arith, ints) in q) o
          (λ before after whole. int-le (last_window (first ∷ before)) (pos s.fdp_cap) (and_parts _ _ (p.ends before after whole)).0);
      free = (free_minutes_told first others o).1
          (λ before after whole. int-le (since_last_rest (first ∷ before)) (pos 8_280) (and_parts _ _ (p.ends before after whole)).1);
    }
