-- Histories of any length, with what keeps them in order, step by step: what the theory asks of the third part of a value.
use Rattle.std.proofs.Common.{◌≡◌, Bool, true, false, cond, List, [], ◌∷◌, map, ◌⊎◌, inl, inr, Option, Some, None, ℤ, pos, refl, sym, ◌∙◌, ap, subst}
use Rattle.std.specs.Prelude.{◌≤ℤ◌}
use Rattle.std.specs.Option.{option_and_then}
use Rattle.std.proofs.lemmas.Bool.{and_parts, cases_Bool, false≢true}
use Rattle.crew_resource.specs.Resource.{StepLaws}
use Rattle.crew_resource.proofs.Order.{IsOrder}
use Rattle.crew_resource.proofs.Pools.{and_then_out}
use Rattle.crew_pairing.specs.declared.duty.Duty.{Duty}
use Rattle.crew_history.specs.Histories.{IsHistory, IsNoMore, boarded_history, fits_window, follows, grown, history_from, is_no_more, may_board}
use Rattle.crew_history.specs.Limits.{AreInOrder, KeepsWindows, history_of, period_of}
use Rattle.crew_history.specs.Machinery.Kept.{history_prop}
use Rattle.crew_history.proofs.Histories.{follows_decides, grown_history, grown_monotone, is_no_more_decides, may_board_monotone, no_more_antisym, no_more_refl, no_more_trans}
use Rattle.crew_history.proofs.OfDuties.{windows_told}
use Rattle.crew_long.specs.Machinery.Folds.{value_by, value_from, value_steps}
use Rattle.crew_answers.proofs.Missing.{same-some, test-out}

pub record Kept : Type 0 where
  pub periods : List (ℤ × ℤ)
  pub in_order : IsHistory periods

abbrev pub kept_at_most : Kept → Kept → Bool
kept_at_most a b = is_no_more a.periods b.periods

same-kept : (a b : Kept) → a.periods ≡ b.periods → a ≡ b
same-kept a b e =
    subst (λ h. (k : IsHistory h) → ◌≡◌ {A = Kept} a (record { periods = h; in_order = k })) e
    (λ k. ap (λ z. let r : Kept = record { periods = a.periods; in_order = z } in r) (history_prop a.periods a.in_order k)) b.in_order

at-most-is : (a b : Kept) → kept_at_most a b ≡ true → IsNoMore a.periods b.periods
at-most-is a b = (is_no_more_decides a.periods b.periods a.in_order b.in_order).0

at-most-yes : (a b : Kept) → IsNoMore a.periods b.periods → kept_at_most a b ≡ true
at-most-yes a b = (is_no_more_decides a.periods b.periods a.in_order b.in_order).1

pub kept-order : IsOrder kept_at_most
kept-order = record {
  reflexive = λ a. at-most-yes a a (no_more_refl a.periods);
  transitive = λ a b c h k. at-most-yes a c (no_more_trans a.periods b.periods c.periods (at-most-is a b h) (at-most-is b c k));
  antisymmetric = λ a b h k. same-kept a b (no_more_antisym a.periods b.periods a.in_order b.in_order (at-most-is a b h) (at-most-is b a k));
}

pub none-kept : Kept
none-kept = record { periods = []; in_order = tt }

pub none-periods : none-kept.periods ≡ []
unfolding none-kept
none-periods = refl

-- a history with one duty more
pub longer : (cap : ℤ) (v : Kept) (d : Duty) → may_board (pos 10_080) cap v.periods (period_of d) ≡ true → Kept
longer cap v d may = record {
  periods = grown (pos 10_080) v.periods (period_of d);
  in_order =
      let f = (follows_decides v.periods (period_of d) v.in_order).0
      (and_parts (follows v.periods (period_of d)) (fits_window (pos 10_080) cap v.periods (period_of d)) may).0 in
      grown_history (pos 10_080) v.periods (period_of d) v.in_order f.0 f.1;
}

longer-periods : (cap : ℤ) (v : Kept) (d : Duty) (may : may_board (pos 10_080) cap v.periods (period_of d) ≡ true) → (longer cap v d may).periods ≡ grown (pos 10_080) v.periods (period_of d)
unfolding longer
longer-periods cap v d may = refl

abbrev pub kept_by : (cap : ℤ) (v : Kept) (d : Duty) → (may_board (pos 10_080) cap v.periods (period_of d) ≡ true) ⊎ (may_board (pos 10_080) cap v.periods (period_of d) ≡ false) → Option Kept
kept_by cap v d (inl y) = Some (longer cap v d y)
kept_by cap v d (inr n) = None

abbrev pub board_kept : Bool → ℤ → Kept → Duty → Option Kept
board_kept is_on cap v d = cond is_on (kept_by cap v d (cases_Bool (may_board (pos 10_080) cap v.periods (period_of d)))) (Some v)

pub kept-out : (cap : ℤ) (v : Kept) (d : Duty) (t : (may_board (pos 10_080) cap v.periods (period_of d) ≡ true) ⊎ (may_board (pos 10_080) cap v.periods (period_of d) ≡ false)) (z : Kept) → kept_by cap v d t ≡ Some z
    → (may_board (pos 10_080) cap v.periods (period_of d) ≡ true) × (z.periods ≡ grown (pos 10_080) v.periods (period_of d))
kept-out cap v d (inl y) z e = let q : longer cap v d y ≡ z = (cc) in (y, ap (λ x. x.periods) (sym q) ∙ longer-periods cap v d y)
kept-out cap v d (inr n) z e = absurd (let q : ⊥ = (cc) in q)

pub kept-in : (cap : ℤ) (v : Kept) (d : Duty) (t : (may_board (pos 10_080) cap v.periods (period_of d) ≡ true) ⊎ (may_board (pos 10_080) cap v.periods (period_of d) ≡ false)) → may_board (pos 10_080) cap v.periods (period_of d) ≡ true
    → (z : Kept) × (kept_by cap v d t ≡ Some z) × (z.periods ≡ grown (pos 10_080) v.periods (period_of d))
kept-in cap v d (inl y) e = (longer cap v d y, refl, longer-periods cap v d y)
kept-in cap v d (inr n) e = absurd (false≢true (sym n ∙ e))

board-monotone : (is_on : Bool) (cap : ℤ) (a b c : Kept) (d : Duty) → kept_at_most a b ≡ true → board_kept is_on cap b d ≡ Some c
    → (z : Kept) × (board_kept is_on cap a d ≡ Some z) × (kept_at_most z c ≡ true)
board-monotone true cap a b c d h e =
    let less = at-most-is a b h in
    let k = kept-out cap b d (cases_Bool (may_board (pos 10_080) cap b.periods (period_of d))) c e in
    let z = kept-in cap a d (cases_Bool (may_board (pos 10_080) cap a.periods (period_of d))) (may_board_monotone (pos 10_080) cap a.periods b.periods (period_of d) less k.0) in (
      z.0,
      z.1,
      at-most-yes z.0 c (subst (λ x. IsNoMore x c.periods) (sym z.2)
          (subst (IsNoMore (grown (pos 10_080) a.periods (period_of d))) (sym k.1) (grown_monotone (pos 10_080) a.periods b.periods (period_of d) less))),
    )
board-monotone false cap a b c d h e = (a, refl, let q : b ≡ c = (cc) in subst (λ z. kept_at_most a z ≡ true) q h)

abbrev pub open_kept : Bool → ℤ → Duty → Option Kept
open_kept is_on cap = board_kept is_on cap none-kept

abbrev pub extend_kept : Bool → ℤ → Kept → Duty → Duty → Option Kept
extend_kept is_on cap v last next = board_kept is_on cap v next

abbrev pub kept_of : Bool → ℤ → List Duty → Option Kept
kept_of is_on cap = value_by (open_kept is_on cap) (extend_kept is_on cap)

pub kept-steps : (is_on : Bool) (cap : ℤ) → StepLaws (open_kept is_on cap) (extend_kept is_on cap) kept_at_most (kept_of is_on cap)
kept-steps is_on cap = value_steps (open_kept is_on cap) (extend_kept is_on cap) kept_at_most (λ a b c last next. board-monotone is_on cap a b c next)

module _ (cap : ℤ) where
  valued : (others : List Duty) (v : Kept) (last : Duty) (h : List (ℤ × ℤ)) → history_from (pos 10_080) cap v.periods (map period_of others) ≡ Some h
      → (z : Kept) × (value_from (extend_kept true cap) v last others ≡ Some z) × (z.periods ≡ h)
  valued [] v last h e = (v, refl, same-some v.periods h e)
  valued (next ∷ others) v last h e =
      let k = and_then_out (λ z. history_from (pos 10_080) cap z (map period_of others)) (boarded_history (pos 10_080) cap v.periods (period_of next)) h e in
      let t = test-out (may_board (pos 10_080) cap v.periods (period_of next)) (grown (pos 10_080) v.periods (period_of next)) k.0 k.1 in
      let z = kept-in cap v next (cases_Bool (may_board (pos 10_080) cap v.periods (period_of next))) t.0 in
      let rest = valued others z.0 next h (subst (λ y. history_from (pos 10_080) cap y (map period_of others) ≡ Some h) (sym t.1 ∙ sym z.2) k.2) in
      (rest.0, ap (option_and_then (λ w. value_from (extend_kept true cap) w next others)) z.1 ∙ rest.1, rest.2)

  told : (others : List Duty) (v : Kept) (last : Duty) (z : Kept) → value_from (extend_kept true cap) v last others ≡ Some z
      → history_from (pos 10_080) cap v.periods (map period_of others) ≡ Some z.periods
  told [] v last z e = ap (λ y. Some y.periods) (same-some v z e)
  told (next ∷ others) v last z e =
      let k = and_then_out (λ w. value_from (extend_kept true cap) w next others) (kept_by cap v next (cases_Bool (may_board (pos 10_080) cap v.periods (period_of next)))) z e in
      let t = kept-out cap v next (cases_Bool (may_board (pos 10_080) cap v.periods (period_of next))) k.0 k.1 in
      ap (option_and_then (λ y. history_from (pos 10_080) cap y (map period_of others))) (ap (λ b. cond b (Some (grown (pos 10_080) v.periods (period_of next))) None) t.0)
      ∙ subst (λ y. history_from (pos 10_080) cap y (map period_of others) ≡ Some z.periods) t.1 (told others k.0 next z k.2)

pub kept-value : (is_on : Bool) (cap : ℤ) (first : Duty) (others : List Duty) → is_on ≡ true → pos 0 ≤ℤ cap → AreInOrder first others → KeepsWindows cap (first ∷ others)
    → (v : Kept) × (kept_of is_on cap (first ∷ others) ≡ Some v) × (v.periods ≡ history_of first others)
kept-value false cap first others e c o keeps = absurd (let q : ⊥ = (cc) in q)
kept-value true cap first others e c o keeps =
    valued cap (first ∷ others) none-kept first (history_of first others)
    (subst (λ y. history_from (pos 10_080) cap y (map period_of (first ∷ others)) ≡ Some (history_of first others)) (sym none-periods) ((windows_told cap first others c o).0 keeps))

pub kept-keeps : (is_on : Bool) (cap : ℤ) (first : Duty) (others : List Duty) (v : Kept) → is_on ≡ true → pos 0 ≤ℤ cap → AreInOrder first others
    → kept_of is_on cap (first ∷ others) ≡ Some v → KeepsWindows cap (first ∷ others)
kept-keeps false cap first others v e c o k = absurd (let q : ⊥ = (cc) in q)
kept-keeps true cap first others v e c o k =
    (windows_told cap first others c o).1 v.periods
    (subst (λ y. history_from (pos 10_080) cap y (map period_of (first ∷ others)) ≡ Some v.periods) none-periods (told cap (first ∷ others) none-kept first v k))

same-from : (cap : ℤ) (v : Kept) (last : Duty) (others : List Duty) → value_from (extend_kept false cap) v last others ≡ Some v
same-from cap v last [] = refl
same-from cap v last (next ∷ others) = same-from cap v next others

pub kept-off : (is_on : Bool) (cap : ℤ) → is_on ≡ false → (first : Duty) (others : List Duty) → kept_of is_on cap (first ∷ others) ≡ Some none-kept
kept-off true cap e first others = absurd (let q : ⊥ = (cc) in q)
kept-off false cap e first others = same-from cap none-kept first others
