-- The value of a list of duties: the history of its last window, where every window keeps the cap.
use Rattle.std.proofs.Common.{◌≡◌, ℕ, ◌+◌, ◌<◌, ◌≤◌, Bool, true, false, cond, ◌&&◌, List, [], ◌∷◌, map, length, Some, None, ℤ, pos, refl, sym, ◌∙◌, ap, subst, arith}
use Rattle.std.specs.Prelude.{◌≤ℤ◌, nat_lt}
use Rattle.std.specs.Option.{option_and_then}
use Rattle.std.proofs.lemmas.Bool.{cases_Bool, and_parts, and_from}
use Rattle.std.proofs.lemmas.Bool.Decides.{nat_tests}
use Rattle.crew_history.specs.crew_pairing.declared.duty.Duty.{Duty}
use Rattle.crew_resource.specs.Members.{Each}
use Rattle.crew_resource.proofs.Pools.{and_then_out}
use Rattle.crew_history.specs.Histories.{grown, may_board, boarded_history, history_from}
use Rattle.crew_history.specs.Limits.{AreInOrder, KeepsWindows, history_of, period_of}
use Rattle.crew_history.proofs.OfDuties.{windows_told}
use Rattle.crew_long.specs.Recents.{recent_periods, is_dated, may_take}
use Rattle.crew_long.specs.Machinery.Folds.{value_from, value_by}
use Rattle.crew_long.specs.Machinery.RecentStages.{idle_recent, idle_periods, idle_duties, taken_by, taken_in, taken_out, open_recent, extend_recent}
use Rattle.crew_long.specs.declared.recent.Recent.{Recent}

abbrev IsDated : Duty → Type 0
IsDated d = is_dated d ≡ true

taken : {A : Type 0} (b : Bool) (g h : A) → cond b (Some g) None ≡ Some h → (b ≡ true) × (g ≡ h)
taken true g h e = (refl, let q : g ≡ h = (cc) in q)
taken false g h e = absurd (let q : ⊥ = (cc) in q)

same_some : {A : Type 0} (g h : A) → Some g ≡ Some h → g ≡ h
same_some g h e = (cc)

lt_yes : (a b : ℕ) → a < b → nat_lt a b ≡ true
lt_yes a b h = grind (arith, nat_tests)

-- where the history of the further duties is there, so is the value
module _ (cap : ℤ) where
  valued : (others : List Duty) (v : Recent) (last : Duty) (h : List (ℤ × ℤ)) → Each IsDated others → (v.duties + length others) ≤ 12
      → history_from (pos 10_080) cap (recent_periods v) (map period_of others) ≡ Some h
      → (z : Recent) × (value_from (extend_recent true cap) v last others ≡ Some z) × (recent_periods z ≡ h) × (z.duties ≡ v.duties + length others)
  valued [] v last h dated few e = (v, refl, same_some (recent_periods v) h e, omega arith)
  valued (next ∷ others) v last h dated few e =
      let k = and_then_out (λ z. history_from (pos 10_080) cap z (map period_of others)) (boarded_history (pos 10_080) cap (recent_periods v) (period_of next)) h e in
      let t = taken (may_board (pos 10_080) cap (recent_periods v) (period_of next)) (grown (pos 10_080) (recent_periods v) (period_of next)) k.0 k.1 in
      let below : v.duties < 12 = omega (arith, few) in
      let may = and_from (nat_lt v.duties 12) (is_dated next && may_board (pos 10_080) cap (recent_periods v) (period_of next)) (lt_yes v.duties 12 below)
      (and_from (is_dated next) (may_board (pos 10_080) cap (recent_periods v) (period_of next)) dated.0 t.0) in
      let z = taken_in cap v next (cases_Bool (may_take cap v next)) may in
      let longer = z.3 in
      let more : (z.0.duties + length others) ≤ 12 = omega (arith, few, longer) in
      let from : history_from (pos 10_080) cap (recent_periods z.0) (map period_of others) ≡ Some h =
      subst (λ y. history_from (pos 10_080) cap y (map period_of others) ≡ Some h) (sym t.1 ∙ sym z.2) k.2 in
      let rest = valued others z.0 next h dated.1 more from in
      let total = rest.3 in (
        rest.0,
        ap (option_and_then (λ w. value_from (extend_recent true cap) w next others)) z.1 ∙ rest.1,
        rest.2,
        omega (arith, total, longer),
      )

  -- and where the value is there, so is the history
  told : (others : List Duty) (v : Recent) (last : Duty) (z : Recent) → value_from (extend_recent true cap) v last others ≡ Some z
      → history_from (pos 10_080) cap (recent_periods v) (map period_of others) ≡ Some (recent_periods z)
  told [] v last z e = ap (λ y. Some (recent_periods y)) (same_some v z e)
  told (next ∷ others) v last z e =
      let k = and_then_out (λ w. value_from (extend_recent true cap) w next others) (taken_by cap v next (cases_Bool (may_take cap v next))) z e in
      let t = taken_out cap v next (cases_Bool (may_take cap v next)) k.0 k.1 in
      let may = (and_parts (is_dated next) (may_board (pos 10_080) cap (recent_periods v) (period_of next))
      (and_parts (nat_lt v.duties 12) (is_dated next && may_board (pos 10_080) cap (recent_periods v) (period_of next)) t.0).1).1 in
      ap (option_and_then (λ y. history_from (pos 10_080) cap y (map period_of others))) (ap (λ b. cond b (Some (grown (pos 10_080) (recent_periods v) (period_of next))) None) may)
      ∙ subst (λ y. history_from (pos 10_080) cap y (map period_of others) ≡ Some (recent_periods z)) t.1 (told others k.0 next z k.2)

-- where every window keeps the cap there is a value
pub window_value : (is_on : Bool) (cap : ℤ) (first : Duty) (others : List Duty) → is_on ≡ true → pos 0 ≤ℤ cap → AreInOrder first others
    → Each IsDated (first ∷ others) → length (first ∷ others) ≤ 12 → KeepsWindows cap (first ∷ others)
    → (v : Recent) × (value_by (open_recent is_on cap) (extend_recent is_on cap) (first ∷ others) ≡ Some v) × (recent_periods v ≡ history_of first others) × (v.duties ≡ length (first ∷ others))
window_value false cap first others e c o dated few keeps = absurd (let q : ⊥ = (cc) in q)
window_value true cap first others e c o dated few keeps =
    let there = (windows_told cap first others c o).0 keeps in
    let from : history_from (pos 10_080) cap (recent_periods idle_recent) (map period_of (first ∷ others)) ≡ Some (history_of first others) =
    subst (λ y. history_from (pos 10_080) cap y (map period_of (first ∷ others)) ≡ Some (history_of first others)) (sym idle_periods) there in
    let none = idle_duties in
    let z = valued cap (first ∷ others) idle_recent first (history_of first others) dated (omega (arith, few, none)) from in
    let total = z.3 in
    (z.0, z.1, z.2, omega (arith, total, none))

-- and nowhere else
pub value_keeps : (is_on : Bool) (cap : ℤ) (first : Duty) (others : List Duty) (v : Recent) → is_on ≡ true → pos 0 ≤ℤ cap → AreInOrder first others
    → value_by (open_recent is_on cap) (extend_recent is_on cap) (first ∷ others) ≡ Some v → KeepsWindows cap (first ∷ others)
value_keeps false cap first others v e c o k = absurd (let q : ⊥ = (cc) in q)
value_keeps true cap first others v e c o k =
    (windows_told cap first others c o).1 (recent_periods v)
    (subst (λ y. history_from (pos 10_080) cap y (map period_of (first ∷ others)) ≡ Some (recent_periods v)) idle_periods (told cap (first ∷ others) idle_recent first v k))

same_from : (cap : ℤ) (v : Recent) (last : Duty) (others : List Duty) → value_from (extend_recent false cap) v last others ≡ Some v
same_from cap v last [] = refl
same_from cap v last (next ∷ others) = same_from cap v next others

pub window_off : (is_on : Bool) (cap : ℤ) → is_on ≡ false → (v : Recent) × ((first : Duty) (others : List Duty) → value_by (open_recent is_on cap) (extend_recent is_on cap) (first ∷ others) ≡ Some v)
window_off true cap e = absurd (let q : ⊥ = (cc) in q)
window_off false cap e = (idle_recent, λ first others. same_from cap idle_recent first others)
