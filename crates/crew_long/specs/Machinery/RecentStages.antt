-- The stages of the flight duty periods of the last window, and their laws.
use Rattle.std.specs.Prelude.{◌≡◌, ℕ, ◌+◌, ◌<◌, ◌≤◌, Bool, true, false, cond, ◌&&◌, nat_le, nat_lt, ℤ, pos, ◌≤ℤ◌, [], length, replicate, Option, Some, None}
use Rattle.std.specs.Ordering.{nat_cmp, ordering_then}
use Rattle.std.specs.FinMap.{nat_cmp-IsAntisymmetric}
use Rattle.std.specs.declared.cmp.Ordering.{Ordering}
use Rattle.std.proofs.Common.{◌⊎◌, inl, inr, refl, sym, ◌∙◌, ap, subst, arith}
use Rattle.std.proofs.lemmas.Bool.{cases_Bool, false≢true, and_parts, and_from}
use Rattle.std.proofs.lemmas.Bool.Decides.{nat_tests}
use Rattle.std.proofs.lemmas.List.{length-take-le}
use Rattle.crew_history.specs.crew_pairing.Events.{IsSound, MayFollow, arrival_of, departure_of}
use Rattle.crew_history.specs.crew_pairing.declared.duty.Duty.{Duty}
use Rattle.crew_history.specs.crew_pairing.declared.events.Arrival.{Arrival}
use Rattle.crew_history.specs.crew_pairing.declared.events.Departure.{Departure}
use Rattle.crew_resource.specs.Machinery.BothLaws.{both_equal}
use Rattle.crew_resource.specs.Resource.{OrderLaws, StepLaws}
use Rattle.crew_resource.specs.Stages.{StagedLaws, ShiftLaws, BoundLaws}
use Rattle.crew_history.specs.Histories.{minutes_after, IsHistory, IsNoMore, grown, follows, fits_window, may_board}
use Rattle.crew_history.specs.HistoryValues.{periods_of, history_at_most}
use Rattle.crew_history.specs.Limits.{period_of}
use Rattle.crew_history.specs.declared.history.History.{History}
use Rattle.crew_history.proofs.Histories.{grown_history, grown_length, grown_monotone, follows_decides, may_board_monotone}
use Rattle.crew_history.proofs.FixedHistories.{history_cmp, history_order, fixed, periods_of_fixed, len_of_fixed, at_most_is, at_most_yes}
use Rattle.crew_long.specs.Recents.{recent_periods, recent_at_most, is_dated, may_take}
use Rattle.crew_long.specs.Machinery.Folds.{value_by, value_steps}
use Rattle.crew_long.specs.Machinery.Counted.{IsCounted, counted_prop}
use Rattle.crew_long.specs.declared.recent.Recent.{Recent}

-- the derived listing
abbrev pub recent_cmp : Recent → Recent → Ordering
recent_cmp a b = ordering_then (history_cmp a.history b.history) (nat_cmp a.duties b.duties)

-- equal histories and numbers are equal values
pub same_recent : (a b : Recent) → a.history ≡ b.history → a.duties ≡ b.duties → a ≡ b
same_recent a b e f =
    subst (λ h. (k : IsCounted h b.duties) → a ≡ record { history = h; duties = b.duties; kept = k }) e
    (subst (λ n. (k : IsCounted a.history n) → a ≡ record { history = a.history; duties = n; kept = k }) f
    (λ k. ap (λ z. let r : Recent = record { history = a.history; duties = a.duties; kept = z } in r) (counted_prop a.history a.duties a.kept k)))
    b.kept

pub recent_order : OrderLaws recent_cmp recent_at_most
recent_order = record {
  exact = λ a b e.
      let k = both_equal (history_cmp a.history b.history) (nat_cmp a.duties b.duties) e in
      same_recent a b (history_order.exact a.history b.history k.0) (nat_cmp-IsAntisymmetric a.duties b.duties k.1);
  reflexive = λ a. and_from (nat_le a.duties a.duties) (history_at_most a.history a.history) (itself a.duties) (history_order.reflexive a.history);
  transitive = λ a b c h k.
      let f = and_parts (nat_le a.duties b.duties) (history_at_most a.history b.history) h in
      let g = and_parts (nat_le b.duties c.duties) (history_at_most b.history c.history) k in
      and_from (nat_le a.duties c.duties) (history_at_most a.history c.history)
      (through a.duties b.duties c.duties f.0 g.0) (history_order.transitive a.history b.history c.history f.1 g.1);
  antisymmetric = λ a b h k.
      let f = and_parts (nat_le a.duties b.duties) (history_at_most a.history b.history) h in
      let g = and_parts (nat_le b.duties a.duties) (history_at_most b.history a.history) k in
      same_recent a b (history_order.antisymmetric a.history b.history f.1 g.1) (both a.duties b.duties f.0 g.0);
}
  where
    itself : (a : ℕ) → nat_le a a ≡ true
    itself a = grind (arith, nat_tests)

    through : (a b c : ℕ) → nat_le a b ≡ true → nat_le b c ≡ true → nat_le a c ≡ true
    through a b c h k = grind (arith, nat_tests)

    both : (a b : ℕ) → nat_le a b ≡ true → nat_le b a ≡ true → a ≡ b
    both a b h k = grind (arith, nat_tests)

-- no periods
no_periods : History
no_periods = record {
  periods = replicate 12 (pos 0, pos 0);
  len = 0;
  kept = (omega arith, refl, tt, refl);
}

pub idle_recent : Recent
unfolding no_periods
idle_recent = record { history = no_periods; duties = 0; kept = omega arith }

pub idle_periods : recent_periods idle_recent ≡ []
unfolding no_periods idle_recent
idle_periods = refl

pub idle_duties : idle_recent.duties ≡ 0
unfolding idle_recent
idle_duties = refl

is_below : (n : ℕ) → nat_lt n 12 ≡ true → n < 12
is_below n e = grind (arith, nat_tests)

-- no more periods than duties
pub recent_length : (v : Recent) → length (recent_periods v) ≤ v.duties
recent_length v =
    let k = v.history.kept in
    let l : v.history.len ≤ length v.history.periods = let a = k.0 in let b = k.1 in omega (arith, a, b) in
    let e = length-take-le v.history.len v.history.periods l in
    let c : v.history.len ≤ v.duties = v.kept in
    omega (arith, e, c)

-- the value with one duty more
module _ (cap : ℤ) (v : Recent) (d : Duty) (may : may_take cap v d ≡ true) where
  few : v.duties < 12
  few = is_below v.duties (and_parts (nat_lt v.duties 12) (is_dated d && may_board (pos 10_080) cap (recent_periods v) (period_of d)) may).0

  pub boards : may_board (pos 10_080) cap (recent_periods v) (period_of d) ≡ true
  boards = (and_parts (is_dated d) (may_board (pos 10_080) cap (recent_periods v) (period_of d))
      (and_parts (nat_lt v.duties 12) (is_dated d && may_board (pos 10_080) cap (recent_periods v) (period_of d)) may).1).1

  longer : length (grown (pos 10_080) (recent_periods v) (period_of d)) ≤ v.duties + 1
  longer =
      let a = grown_length (pos 10_080) (recent_periods v) (period_of d) in
      let b = recent_length v in
      omega (arith, a, b)

  grown_kept : IsHistory (grown (pos 10_080) (recent_periods v) (period_of d))
  grown_kept =
      let f = (follows_decides (recent_periods v) (period_of d) v.history.kept.2).0
      (and_parts (follows (recent_periods v) (period_of d)) (fits_window (pos 10_080) cap (recent_periods v) (period_of d)) boards).0 in
      grown_history (pos 10_080) (recent_periods v) (period_of d) v.history.kept.2 f.0 f.1

  fits : length (grown (pos 10_080) (recent_periods v) (period_of d)) ≤ 12
  fits = let a = longer in let b = few in omega (arith, a, b)

  pub taken_history : History
  taken_history = fixed (grown (pos 10_080) (recent_periods v) (period_of d)) grown_kept fits

  pub taken_recent : Recent
  unfolding taken_history
  taken_recent = record {
    history = taken_history;
    duties = v.duties + 1;
    kept = subst (λ n. n ≤ v.duties + 1) (sym (len_of_fixed (grown (pos 10_080) (recent_periods v) (period_of d)) grown_kept fits)) longer;
  }

  pub taken_duties : taken_recent.duties ≡ v.duties + 1
  unfolding taken_recent
  taken_duties = refl

  pub taken_periods : recent_periods taken_recent ≡ grown (pos 10_080) (recent_periods v) (period_of d)
  unfolding taken_history taken_recent
  taken_periods = periods_of_fixed (grown (pos 10_080) (recent_periods v) (period_of d)) grown_kept fits

abbrev pub taken_by : (cap : ℤ) (v : Recent) (d : Duty) → (may_take cap v d ≡ true) ⊎ (may_take cap v d ≡ false) → Option Recent
taken_by cap v d (inl y) = Some (taken_recent cap v d y)
taken_by cap v d (inr n) = None

-- off, the value stays
abbrev pub board_recent : Bool → ℤ → Recent → Duty → Option Recent
board_recent is_on cap v d = cond is_on (taken_by cap v d (cases_Bool (may_take cap v d))) (Some v)

-- what boarding answers, and where
pub taken_out : (cap : ℤ) (v : Recent) (d : Duty) (t : (may_take cap v d ≡ true) ⊎ (may_take cap v d ≡ false)) (z : Recent) → taken_by cap v d t ≡ Some z
    → (may_take cap v d ≡ true) × (recent_periods z ≡ grown (pos 10_080) (recent_periods v) (period_of d)) × (z.duties ≡ v.duties + 1)
taken_out cap v d (inl y) z e =
    let q : taken_recent cap v d y ≡ z = (cc) in
    (y, ap recent_periods (sym q) ∙ taken_periods cap v d y, ap (λ x. x.duties) (sym q) ∙ taken_duties cap v d y)
taken_out cap v d (inr n) z e = absurd (let q : ⊥ = (cc) in q)

pub taken_in : (cap : ℤ) (v : Recent) (d : Duty) (t : (may_take cap v d ≡ true) ⊎ (may_take cap v d ≡ false)) → may_take cap v d ≡ true
    → (z : Recent) × (taken_by cap v d t ≡ Some z) × (recent_periods z ≡ grown (pos 10_080) (recent_periods v) (period_of d)) × (z.duties ≡ v.duties + 1)
taken_in cap v d (inl y) e = (taken_recent cap v d y, refl, taken_periods cap v d y, taken_duties cap v d y)
taken_in cap v d (inr n) e = absurd (false≢true (sym n ∙ e))

-- the lesser value takes a duty on where the greater does
lesser_may : (cap : ℤ) (a b : Recent) (d : Duty) → recent_at_most a b ≡ true → may_take cap b d ≡ true → may_take cap a d ≡ true
lesser_may cap a b d h e =
    let less = and_parts (nat_le a.duties b.duties) (history_at_most a.history b.history) h in
    let f = and_parts (nat_lt b.duties 12) (is_dated d && may_board (pos 10_080) cap (recent_periods b) (period_of d)) e in
    let g = and_parts (is_dated d) (may_board (pos 10_080) cap (recent_periods b) (period_of d)) f.1 in
    and_from (nat_lt a.duties 12) (is_dated d && may_board (pos 10_080) cap (recent_periods a) (period_of d))
    (fewer a.duties b.duties less.0 f.0)
    (and_from (is_dated d) (may_board (pos 10_080) cap (recent_periods a) (period_of d)) g.0
    (may_board_monotone (pos 10_080) cap (recent_periods a) (recent_periods b) (period_of d) (at_most_is a.history b.history less.1) g.1))
  where
    fewer : (a b : ℕ) → nat_le a b ≡ true → nat_lt b 12 ≡ true → nat_lt a 12 ≡ true
    fewer a b h k = grind (arith, nat_tests)

one_more : (a b x y : ℕ) → nat_le a b ≡ true → x ≡ a + 1 → y ≡ b + 1 → nat_le x y ≡ true
one_more a b x y h e f = grind (arith, nat_tests)

board_monotone : (is_on : Bool) (cap : ℤ) (a b c : Recent) (d : Duty) → recent_at_most a b ≡ true → board_recent is_on cap b d ≡ Some c
    → (z : Recent) × (board_recent is_on cap a d ≡ Some z) × (recent_at_most z c ≡ true)
board_monotone true cap a b c d h e =
    let k = taken_out cap b d (cases_Bool (may_take cap b d)) c e in
    let less = and_parts (nat_le a.duties b.duties) (history_at_most a.history b.history) h in
    let z = taken_in cap a d (cases_Bool (may_take cap a d)) (lesser_may cap a b d h k.0) in
    let no_more : IsNoMore (periods_of z.0.history) (periods_of c.history) = λ t.
    subst (λ y. minutes_after y t ≤ℤ minutes_after (periods_of c.history) t) (sym z.2)
    (subst (λ y. minutes_after (grown (pos 10_080) (recent_periods a) (period_of d)) t ≤ℤ minutes_after y t) (sym k.1)
    (grown_monotone (pos 10_080) (recent_periods a) (recent_periods b) (period_of d) (at_most_is a.history b.history less.1) t)) in (
      z.0,
      z.1,
      and_from (nat_le z.0.duties c.duties) (history_at_most z.0.history c.history)
          (one_more a.duties b.duties z.0.duties c.duties less.0 z.3 k.2) (at_most_yes z.0.history c.history no_more),
    )
board_monotone false cap a b c d h e =
    let q : b ≡ c = (cc) in
    (a, refl, subst (λ z. recent_at_most a z ≡ true) q h)

abbrev pub open_recent : Bool → ℤ → Duty → Option Recent
open_recent is_on cap = board_recent is_on cap idle_recent

abbrev pub extend_recent : Bool → ℤ → Recent → Duty → Duty → Option Recent
extend_recent is_on cap v last next = board_recent is_on cap v next

pub recent_steps : (is_on : Bool) (cap : ℤ) → StepLaws (open_recent is_on cap) (extend_recent is_on cap) recent_at_most (value_by (open_recent is_on cap) (extend_recent is_on cap))
recent_steps is_on cap = value_steps (open_recent is_on cap) (extend_recent is_on cap) recent_at_most (λ a b c last next. board_monotone is_on cap a b c next)

-- waiting changes nothing: periods stand in absolute minutes
abbrev pub wait_recent : Recent → Arrival → Departure → Recent
wait_recent v x g = v

pub recent_staged : (is_on : Bool) (cap : ℤ) → StagedLaws (open_recent is_on cap) (extend_recent is_on cap) recent_at_most arrival_of departure_of (λ _. idle_recent) wait_recent (board_recent is_on cap)
recent_staged is_on cap = record {
  opening = λ i. refl;
  extension = λ v last i. refl;
  wait_monotone = λ a b x g h. h;
  board_monotone = board_monotone is_on cap;
}

pub recent_shifts : (is_on : Bool) (cap : ℤ) → is_on ≡ false → ShiftLaws recent_cmp recent_at_most wait_recent (board_recent is_on cap)
recent_shifts true cap e = absurd (false≢true (sym e))
recent_shifts false cap e = record {
  wait_strict = λ a b x g h. h;
  wait_reflects = λ a b x g h. h;
  wait_listed = λ a b x g. refl;
  board_reflects = λ a b y z i p q h.
      subst (λ v. recent_at_most v b ≡ true) (sym (stays a y p))
      (subst (λ v. recent_at_most y v ≡ true) (sym (stays b z q)) h);
  board_listed = λ a b y z i p q.
      ap (λ v. recent_cmp v z) (sym (stays a y p)) ∙ ap (λ v. recent_cmp a v) (sym (stays b z q));
}
  where
    stays : (a y : Recent) → Some a ≡ Some y → a ≡ y
    stays a y e = (cc)

pub recent_bounds : (is_on : Bool) (cap : ℤ) → BoundLaws IsSound (λ _. Unit {0}) MayFollow arrival_of departure_of (λ _. idle_recent) wait_recent (board_recent is_on cap)
    IsSound (λ _ _ i. IsSound i) (λ _. Unit {0}) (λ _ _ _. Unit {0}) (λ _ i. IsSound i)
    (λ _. Unit {0}) (λ _ _. Unit {0}) (λ _ _. Unit {0})
recent_bounds is_on cap = record {
  idle_ready = λ g b. tt;
  wait_ready = λ n v x g f a. tt;
  board_arrived = λ n v z i s r e. tt;
  fewer = λ n k h f. tt;
  starts = λ i s b f. s;
  extends = λ n v last i s t f h a. t;
  idles = λ g b f. tt;
  waits = λ n v x g f h a. tt;
  boards = λ n v i s h r. s;
}
