-- What a board of a history says of the value with one duty more.
use Rattle.std.proofs.Common.{◌≡◌, ℕ, ◌+◌, ◌<◌, ◌≤◌, Bool, true, false, cond, ◌&&◌, ◌⊎◌, inl, inr, [], Option, Some, None, ℤ, pos, length, refl, sym, ◌∙◌, ap, arith}
use Rattle.std.specs.Prelude.{◌≤ℤ◌, nat_lt, int_le}
use Rattle.std.proofs.lemmas.Bool.{cases_Bool, false≢true}
use Rattle.std.proofs.lemmas.Bool.Decides.{nat_tests}
use Rattle.std.proofs.lemmas.Int.{ints}
use Rattle.std.proofs.lemmas.List.{length-take-le}
use Rattle.crew_history.specs.crew_pairing.declared.duty.Duty.{Duty}
use Rattle.crew_history.specs.Histories.{grown, may_board, boarded_history}
use Rattle.crew_history.specs.HistoryValues.{periods_of}
use Rattle.crew_history.specs.Limits.{period_of}
use Rattle.crew_history.specs.declared.history.History.{History}
use Rattle.crew_history.proofs.FixedHistories.{same_value}
use Rattle.crew_history.proofs.Histories.{grown_length}
use Rattle.crew_long.specs.Recents.{recent_periods, is_dated, may_take}
use Rattle.crew_long.specs.Machinery.Counted.{IsCounted}
use Rattle.crew_long.specs.Machinery.RecentStages.{taken_by, taken_in, same_recent, recent_length, idle_recent, idle_periods, idle_duties}
use Rattle.crew_long.specs.declared.recent.Recent.{Recent}

le_yes : (a b : ℤ) → a ≤ℤ b → int_le a b ≡ true
le_yes a b h = grind (arith, ints)

lt_yes : (a b : ℕ) → a < b → nat_lt a b ≡ true
lt_yes a b h = grind (arith, nat_tests)

-- the first tests hold, so the last decides
may_is : (cap : ℤ) (v : Recent) (d : Duty) (b : Bool) → v.duties < 12 → pos 0 ≤ℤ d.report → d.report ≤ℤ pos 2_000_000_000
    → may_board (pos 10_080) cap (recent_periods v) (period_of d) ≡ b → may_take cap v d ≡ b
may_is cap v d b few least most e =
    ap (λ t. t && (is_dated d && may_board (pos 10_080) cap (recent_periods v) (period_of d))) (lt_yes v.duties 12 few)
    ∙ (ap (λ t. (t && int_le d.report (pos 2_000_000_000)) && may_board (pos 10_080) cap (recent_periods v) (period_of d)) (le_yes (pos 0) d.report least)
    ∙ (ap (λ t. t && may_board (pos 10_080) cap (recent_periods v) (period_of d)) (le_yes d.report (pos 2_000_000_000) most) ∙ e))

none_test : {A : Type 0} (b : Bool) (g : A) → ◌≡◌ {A = Option A} None (cond b (Some g) None) → b ≡ false
none_test true g e = absurd (let q : ⊥ = (cc) in q)
none_test false g e = refl

some_test : {A : Type 0} (b : Bool) (g h : A) → Some h ≡ cond b (Some g) None → (b ≡ true) × (h ≡ g)
some_test true g h e = (refl, let q : h ≡ g = (cc) in q)
some_test false g h e = absurd (let q : ⊥ = (cc) in q)

not_taken : (cap : ℤ) (v : Recent) (d : Duty) (t : (may_take cap v d ≡ true) ⊎ (may_take cap v d ≡ false)) → may_take cap v d ≡ false → taken_by cap v d t ≡ None
not_taken cap v d (inl y) e = absurd (false≢true (sym e ∙ y))
not_taken cap v d (inr n) e = refl

pub taken_none : (cap : ℤ) (v : Recent) (d : Duty) → v.duties < 12 → pos 0 ≤ℤ d.report → d.report ≤ℤ pos 2_000_000_000
    → None ≡ boarded_history (pos 10_080) cap (recent_periods v) (period_of d)
    → None ≡ taken_by cap v d (cases_Bool (may_take cap v d))
taken_none cap v d few least most e =
    sym (not_taken cap v d (cases_Bool (may_take cap v d)) (may_is cap v d false few least most
    (none_test (may_board (pos 10_080) cap (recent_periods v) (period_of d)) (grown (pos 10_080) (recent_periods v) (period_of d)) e)))

pub taken_some : (cap : ℤ) (v : Recent) (d : Duty) (h : History) (k : IsCounted h (v.duties + 1)) → v.duties < 12 → pos 0 ≤ℤ d.report → d.report ≤ℤ pos 2_000_000_000
    → Some (periods_of h) ≡ boarded_history (pos 10_080) cap (recent_periods v) (period_of d)
    → ◌≡◌ {A = Option Recent} (Some (record { history = h; duties = v.duties + 1; kept = k })) (taken_by cap v d (cases_Bool (may_take cap v d)))
taken_some cap v d h k few least most e =
    let t = some_test (may_board (pos 10_080) cap (recent_periods v) (period_of d)) (grown (pos 10_080) (recent_periods v) (period_of d)) (periods_of h) e in
    let z = taken_in cap v d (cases_Bool (may_take cap v d)) (may_is cap v d true few least most t.0) in
    ap (λ r. Some r) (same_recent (record { history = h; duties = v.duties + 1; kept = k }) z.0 (same_value h z.0.history (t.1 ∙ sym z.2)) (sym z.3)) ∙ sym z.1

pub counted_more : (cap : ℤ) (v : Recent) (d : Duty) (h : History)
    → Some (periods_of h) ≡ boarded_history (pos 10_080) cap (recent_periods v) (period_of d) → IsCounted h (v.duties + 1)
counted_more cap v d h e =
    let t = some_test (may_board (pos 10_080) cap (recent_periods v) (period_of d)) (grown (pos 10_080) (recent_periods v) (period_of d)) (periods_of h) e in
    let a = grown_length (pos 10_080) (recent_periods v) (period_of d) in
    let b = recent_length v in
    let kept = h.kept in
    let l : h.len ≤ length h.periods = let x = kept.0 in let y = kept.1 in omega (arith, x, y) in
    let c : length (periods_of h) ≡ h.len = length-take-le h.len h.periods l in
    let f : length (periods_of h) ≡ length (grown (pos 10_080) (recent_periods v) (period_of d)) = ap length t.1 in
    omega (arith, a, b, c, f)

pub empty_recent : (h : History) (k : IsCounted h 0) → periods_of h ≡ [] → ◌≡◌ {A = Recent} (record { history = h; duties = 0; kept = k }) idle_recent
empty_recent h k e = same_recent (record { history = h; duties = 0; kept = k }) idle_recent (same_value h idle_recent.history (e ∙ sym idle_periods)) (sym idle_duties)
