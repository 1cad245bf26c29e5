-- The rules of duties together, against the definition of a pairing.
use Rattle.std.proofs.Common.{◌≡◌, ◌+◌, ◌&&◌, ℕ, ℤ, pos, ◌+ℤ◌, int_le, Bool, true, false, cond, List, [], ◌∷◌, ◌++◌, map, None, inl, inr, refl, sym, ap, subst, ◌∙◌, arith, length}
use Rattle.std.specs.Prelude.{◌-ℤ◌, ◌≤ℤ◌}
use Rattle.std.specs.Ordering.{eq_by_cmp, is_eq}
use Rattle.std.proofs.lemmas.Bool.{and_from, and_parts}
use Rattle.std.proofs.lemmas.Cmp.{tied_itself}
use Rattle.std.proofs.lemmas.Int.{ints}
use Rattle.std.proofs.lemmas.Map.Lookups.{exact_bytes}
use Rattle.std.proofs.lemmas.Map.Views.{tells_apart}
use Rattle.crew_flights.specs.Codes.{code_cmp, code_cmp_total}
use Rattle.crew_flights.specs.Timetable.{IsSound, Timetable}
use Rattle.crew_rules.specs.declared.settings.Settings.{Settings}
use Rattle.crew_pairing.specs.Duties.{flights_of}
use Rattle.crew_pairing.specs.Legality.{total}
use Rattle.crew_pairing.specs.Pairings.{AllRested, IsDuty, is_pairing, last_duty, may_stand_after, minutes_away, rest}
use Rattle.crew_pairing.specs.declared.duty.Duty.{Duty}
use Rattle.crew_resource.specs.Members.{Each, Member}
use Rattle.crew_resource.proofs.Members.{Member-map_out}
use Rattle.crew_history.specs.Histories.{KeepsCap, minutes_within}
use Rattle.crew_history.specs.Limits.{AreInOrder, KeepsWindows, arrival, fdp_between, last_of, period_of, rested_reports}
use Rattle.crew_history.specs.LongPairings.{IsLongPartial, is_within_totals}
use Rattle.crew_history.proofs.Histories.{ends_suffice}
use Rattle.crew_history.proofs.LegalOrder.{in_order}
use Rattle.crew_history.proofs.OfDuties.{between_is, free_minutes_told, is_history}
use Rattle.crew_explain.specs.declared.breach.Rule.TheVariants as The
use Rattle.crew_explain.specs.Rules.{at_least, at_most, between, first_of, free_times, rest_end, rests, returning, same, totals, walk_rules, window_to, windows}
use Rattle.crew_explain.proofs.Told.{first-holds, first-kept, four-hold, hold-four, hold-three, int-le, int-yes, none-both, none-parts, three-hold}

-- neighbouring duties
stands : (s : Settings) (duty : ℕ) (a b : Duty) → first_of (between s duty a b) ≡ None → may_stand_after s a b ≡ true
stands s duty a b e =
    let p = three-hold (same The.RestAirport duty 0 a.to b.from) (at_least The.Rest duty 0 (rest a b) (pos 600)) (at_most The.MaxRest duty 0 (rest a b) (pos s.max_rest)) e in
    and_from (eq_by_cmp code_cmp a.to b.from) (int_le (pos 600) (rest a b) && int_le (rest a b) (pos s.max_rest)) p.0
    (and_from (int_le (pos 600) (rest a b)) (int_le (rest a b) (pos s.max_rest)) p.1 p.2)

stood : (s : Settings) (duty : ℕ) (a b : Duty) → may_stand_after s a b ≡ true → first_of (between s duty a b) ≡ None
stood s duty a b h =
    let p = and_parts (eq_by_cmp code_cmp a.to b.from) (int_le (pos 600) (rest a b) && int_le (rest a b) (pos s.max_rest)) h in
    let q = and_parts (int_le (pos 600) (rest a b)) (int_le (rest a b) (pos s.max_rest)) p.1 in
    hold-three (same The.RestAirport duty 0 a.to b.from) (at_least The.Rest duty 0 (rest a b) (pos 600)) (at_most The.MaxRest duty 0 (rest a b) (pos s.max_rest)) p.0 q.0 q.1

rested : (s : Settings) (duty : ℕ) (first : Duty) (others : List Duty) → first_of (rests s duty first others) ≡ None → AllRested s first others
rested s duty first [] e = tt
rested s duty first (next ∷ others) e =
    let p = none-parts (between s duty first next) (rests s (duty + 1) next others) e in
    (stands s duty first next p.0, rested s (duty + 1) next others p.1)

rests-kept : (s : Settings) (duty : ℕ) (first : Duty) (others : List Duty) → AllRested s first others → first_of (rests s duty first others) ≡ None
rests-kept s duty first [] h = refl
rests-kept s duty first (next ∷ others) h = none-both (between s duty first next) (rests s (duty + 1) next others) (stood s duty first next h.0) (rests-kept s (duty + 1) next others h.1)

-- the caps on totals
capped : (s : Settings) (ds : List Duty) → first_of (totals s ds) ≡ None → is_within_totals s ds ≡ true
capped s ds e =
    let p = four-hold (at_most The.FdpTotal 0 0 (total (λ d. d.fdp) ds) (pos s.fdp_total)) (at_most The.FlyCap 0 0 (total (λ d. d.fly) ds) (pos s.fly_cap)) (at_most The.MaxDuties 0 0 (pos (length ds)) (pos s.max_duties)) (at_most The.AwayCap 0 0 (minutes_away ds) (pos s.away_cap)) e in
    and_from (int_le (total (λ d. d.fdp) ds) (pos s.fdp_total)) (int_le (total (λ d. d.fly) ds) (pos s.fly_cap) && (int_le (pos (length ds)) (pos s.max_duties) && int_le (minutes_away ds) (pos s.away_cap))) p.0
    (and_from (int_le (total (λ d. d.fly) ds) (pos s.fly_cap)) (int_le (pos (length ds)) (pos s.max_duties) && int_le (minutes_away ds) (pos s.away_cap)) p.1
    (and_from (int_le (pos (length ds)) (pos s.max_duties)) (int_le (minutes_away ds) (pos s.away_cap)) p.2 p.3))

caps-kept : (s : Settings) (ds : List Duty) → is_within_totals s ds ≡ true → first_of (totals s ds) ≡ None
caps-kept s ds h =
    let p = and_parts (int_le (total (λ d. d.fdp) ds) (pos s.fdp_total)) (int_le (total (λ d. d.fly) ds) (pos s.fly_cap) && (int_le (pos (length ds)) (pos s.max_duties) && int_le (minutes_away ds) (pos s.away_cap))) h in
    let q = and_parts (int_le (total (λ d. d.fly) ds) (pos s.fly_cap)) (int_le (pos (length ds)) (pos s.max_duties) && int_le (minutes_away ds) (pos s.away_cap)) p.1 in
    let r = and_parts (int_le (pos (length ds)) (pos s.max_duties)) (int_le (minutes_away ds) (pos s.away_cap)) q.1 in
    hold-four (at_most The.FdpTotal 0 0 (total (λ d. d.fdp) ds) (pos s.fdp_total)) (at_most The.FlyCap 0 0 (total (λ d. d.fly) ds) (pos s.fly_cap)) (at_most The.MaxDuties 0 0 (pos (length ds)) (pos s.max_duties)) (at_most The.AwayCap 0 0 (minutes_away ds) (pos s.away_cap)) p.0 q.0 r.0 r.1

-- windows
each-window : (s : Settings) (all : List Duty) (duty : ℕ) (ds : List Duty) → first_of (windows s all duty ds) ≡ None → (d : Duty) → Member ds d → window_to all d ≤ℤ pos s.fdp_cap
each-window s all duty [] e d m = absurd m
each-window s all duty (x ∷ ds) e d (inl i) = subst (λ (z : Duty). window_to all z ≤ℤ pos s.fdp_cap) i (int-le (window_to all x) (pos s.fdp_cap) (first-holds (at_most The.Window duty 0 (window_to all x) (pos s.fdp_cap)) (windows s all (duty + 1) ds) e).0)
each-window s all duty (x ∷ ds) e d (inr m) = each-window s all (duty + 1) ds (first-holds (at_most The.Window duty 0 (window_to all x) (pos s.fdp_cap)) (windows s all (duty + 1) ds) e).1 d m

windows-none : (s : Settings) (all : List Duty) (duty : ℕ) (ds : List Duty) → ((d : Duty) → Member ds d → window_to all d ≤ℤ pos s.fdp_cap) → first_of (windows s all duty ds) ≡ None
windows-none s all duty [] h = refl
windows-none s all duty (x ∷ ds) h = first-kept (at_most The.Window duty 0 (window_to all x) (pos s.fdp_cap)) (windows s all (duty + 1) ds) (int-yes (window_to all x) (pos s.fdp_cap) (h x (inl refl))) (windows-none s all (duty + 1) ds (λ d m. h d (inr m)))

back : (e : ℤ) → (e -ℤ pos 10_080) +ℤ pos 10_080 ≡ e
back e = omega (arith, ints)

forth : (f : ℤ) → (f +ℤ pos 10_080) -ℤ pos 10_080 ≡ f
forth f = omega (arith, ints)

begins : (e : ℤ) → (e -ℤ pos 10_080) ≤ℤ e
begins e = omega (arith, ints)

ends : (f : ℤ) → f ≤ℤ (f +ℤ pos 10_080)
ends f = omega (arith, ints)

window-kept : (cap : ℤ) (ds : List Duty) (d : Duty) → KeepsWindows cap ds → window_to ds d ≤ℤ cap
window-kept cap ds d keeps = subst (λ u. total (fdp_between (arrival d -ℤ pos 10_080) u) ds ≤ℤ cap) (back (arrival d)) (keeps (arrival d -ℤ pos 10_080))

windows-kept : (cap : ℤ) (first : Duty) (others : List Duty) → pos 0 ≤ℤ cap → AreInOrder first others → ((d : Duty) → Member (first ∷ others) d → window_to (first ∷ others) d ≤ℤ cap) → KeepsWindows cap (first ∷ others)
windows-kept cap first others c o each from =
    let kept : minutes_within (map period_of (first ∷ others)) from (from +ℤ pos 10_080) ≤ℤ cap =
    subst (λ f. minutes_within (map period_of (first ∷ others)) f (from +ℤ pos 10_080) ≤ℤ cap) (forth from) (all (from +ℤ pos 10_080)) in
    subst (λ z. z ≤ℤ cap) (sym (between_is from (from +ℤ pos 10_080) first others o (ends from))) kept
  where
    own : (d : Duty) → Member (first ∷ others) d → minutes_within (map period_of (first ∷ others)) (arrival d -ℤ pos 10_080) (arrival d) ≤ℤ cap
    own d m = subst (λ z. z ≤ℤ cap) (between_is (arrival d -ℤ pos 10_080) (arrival d) first others o (begins (arrival d))) (each d m)

    all : KeepsCap (pos 10_080) cap (map period_of (first ∷ others))
    all = ends_suffice (pos 10_080) cap (map period_of (first ∷ others)) (is_history first others o) (let q : pos 0 ≤ℤ pos 10_080 = omega (arith, ints) in q) c
        (λ p m.
        let k = Member-map_out period_of (first ∷ others) p m in
        subst (λ (q : ℤ × ℤ). minutes_within (map period_of (first ∷ others)) (q.1 -ℤ pos 10_080) q.1 ≤ℤ cap) k.2 (own k.0 k.1))

-- free time before reports
choose : (b : Bool) (given report : ℤ) (reports : List ℤ) → last_of given (cond b (report ∷ reports) reports) ≡ last_of (cond b report given) reports
choose true given report reports = refl
choose false given report reports = refl

-- minutes from the last long rest, where one ended at an instant before
abbrev since : ℤ → Duty → List Duty → ℤ
since given first before = (last_duty first before).report -ℤ last_of given (rested_reports first before)

since-next : (given : ℤ) (last next : Duty) (before : List Duty) → since given last (next ∷ before) ≡ since (rest_end given last next) next before
since-next given last next before = ap (λ (z : ℤ). (last_duty next before).report -ℤ z) (choose (int_le (pos 1_800) (rest last next)) given next.report (rested_reports next before))

free-each : (duty : ℕ) (given : ℤ) (last : Duty) (others : List Duty) → first_of (free_times duty given last others) ≡ None → (last.report -ℤ given) ≤ℤ pos 8_280
    → (before after : List Duty) → before ++ after ≡ others → since given last before ≤ℤ pos 8_280
free-each duty given last others e h [] after whole = h
free-each duty given last [] e h (d ∷ before) after whole = absurd (let q : ⊥ = (cc) in q)
free-each duty given last (next ∷ others) e h (d ∷ before) after whole =
    let head : d ≡ next = (cc) in
    let tail : before ++ after ≡ others = (cc) in
    let ended = rest_end given last next in
    let p = first-holds (at_most The.FreeTime duty 0 (next.report -ℤ ended) (pos 8_280)) (free_times (duty + 1) ended next others) e in
    let deeper = free-each (duty + 1) ended next others p.1 (int-le (next.report -ℤ ended) (pos 8_280) p.0) before after tail in
    subst (λ (z : Duty). since given last (z ∷ before) ≤ℤ pos 8_280) (sym head) (subst (λ (z : ℤ). z ≤ℤ pos 8_280) (sym (since-next given last next before)) deeper)

free-none : (duty : ℕ) (given : ℤ) (last : Duty) (others : List Duty) → ((before after : List Duty) → before ++ after ≡ others → since given last before ≤ℤ pos 8_280) → first_of (free_times duty given last others) ≡ None
free-none duty given last [] h = refl
free-none duty given last (next ∷ others) h =
    let ended = rest_end given last next in
    let own : since ended next [] ≤ℤ pos 8_280 = subst (λ (z : ℤ). z ≤ℤ pos 8_280) (since-next given last next []) (h (next ∷ []) others refl) in
    first-kept (at_most The.FreeTime duty 0 (next.report -ℤ ended) (pos 8_280)) (free_times (duty + 1) ended next others) (int-yes (next.report -ℤ ended) (pos 8_280) own)
    (free-none (duty + 1) ended next others
    (λ before after whole. subst (λ (z : ℤ). z ≤ℤ pos 8_280) (since-next given last next before) (h (next ∷ before) after (ap (λ (ds : List Duty). next ∷ ds) whole))))

-- all of them
same-code : (a b : List ℕ) → eq_by_cmp code_cmp a b ≡ true → a ≡ b
same-code a b e = tells_apart exact_bytes a b e

pub record Chained (s : Settings) (t : Timetable) (base : List ℕ) (ds : List Duty) : Type 0 where
  pub first : Duty
  pub others : List Duty
  pub given : ds ≡ first ∷ others
  pub partial : IsLongPartial s (flights_of t) base first others
  pub returns : is_pairing base first others ≡ true

pub chained : (s : Settings) (t : Timetable) (base : List ℕ) (ds : List Duty) → IsSound t → Each (IsDuty s (flights_of t)) ds → first_of (walk_rules s base ds) ≡ None → Chained s t base ds
chained s t base [] sound legal e = absurd (let q : ⊥ = (cc) in q)
chained s t base (first ∷ others) sound legal e =
    let all = first ∷ others in
    let one = first-holds (same The.Leaves 1 0 first.from base) (rests s 2 first others ++ (totals s all ++ (windows s all 1 all ++ (free_times 2 first.report first others ++ (returning base first others ∷ []))))) e in
    let r = none-parts (rests s 2 first others) (totals s all ++ (windows s all 1 all ++ (free_times 2 first.report first others ++ (returning base first others ∷ [])))) one.1 in
    let c = none-parts (totals s all) (windows s all 1 all ++ (free_times 2 first.report first others ++ (returning base first others ∷ []))) r.1 in
    let w = none-parts (windows s all 1 all) (free_times 2 first.report first others ++ (returning base first others ∷ [])) c.1 in
    let f = none-parts (free_times 2 first.report first others) (returning base first others ∷ []) w.1 in
    let apart = rested s 2 first others r.0 in
    let o = in_order s t first others sound legal apart in
    record {
      first = first;
      others = others;
      given = refl;
      partial = record {
        legal = legal;
        leaves = same-code first.from base one.0;
        rested = apart;
        capped = capped s all c.0;
        windows = windows-kept (pos s.fdp_cap) first others (let q : pos 0 ≤ℤ pos s.fdp_cap = omega (arith, ints) in q) o (each-window s all 1 all w.0);
        free = (free_minutes_told first others o).1 (free-each 2 first.report first others f.0 (none first.report));
      };
      returns = (first-holds (returning base first others) [] f.1).0;
    }
  where
    none : (r : ℤ) → (r -ℤ r) ≤ℤ pos 8_280
    none r = omega (arith, ints)

pub unbroken : (s : Settings) (t : Timetable) (base : List ℕ) (first : Duty) (others : List Duty) → IsSound t → IsLongPartial s (flights_of t) base first others → is_pairing base first others ≡ true
    → first_of (walk_rules s base (first ∷ others)) ≡ None
unbroken s t base first others sound p home =
    let all = first ∷ others in
    let o = in_order s t first others sound p.legal p.rested in
    let from : eq_by_cmp code_cmp first.from base ≡ true = ap (λ (x : List ℕ). eq_by_cmp code_cmp x base) p.leaves ∙ ap is_eq (tied_itself code_cmp_total base) in
    let free = free-none 2 first.report first others ((free_minutes_told first others o).0 p.free) in
    let last = first-kept (returning base first others) [] home refl in
    let frees = free_times 2 first.report first others ++ (returning base first others ∷ []) in
    first-kept (same The.Leaves 1 0 first.from base) (rests s 2 first others ++ (totals s all ++ (windows s all 1 all ++ frees))) from
    (none-both (rests s 2 first others) (totals s all ++ (windows s all 1 all ++ frees)) (rests-kept s 2 first others p.rested)
    (none-both (totals s all) (windows s all 1 all ++ frees) (caps-kept s all p.capped)
    (none-both (windows s all 1 all) frees (windows-none s all 1 all (λ d m. window-kept (pos s.fdp_cap) all d p.windows))
    (none-both (free_times 2 first.report first others) (returning base first others ∷ []) free last))))
