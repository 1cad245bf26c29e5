-- The value of a list of duties: the end of its last long rest, where free minutes lie before each report.
use Rattle.std.proofs.Common.{◌≡◌, Bool, true, false, cond, List, [], ◌∷◌, ◌++◌, Some, None, ℤ, pos, refl, sym, ◌∙◌, ap, subst, arith}
use Rattle.std.specs.Prelude.{◌-ℤ◌, ◌≤ℤ◌, int_le}
use Rattle.std.specs.Option.{option_and_then}
use Rattle.std.proofs.lemmas.Int.{ints}
use Rattle.crew_history.specs.crew_pairing.Pairings.{last_duty, rest}
use Rattle.crew_history.specs.crew_pairing.declared.duty.Duty.{Duty}
use Rattle.crew_resource.proofs.Pools.{and_then_out}
use Rattle.crew_history.specs.Limits.{AreInOrder, IsFreeBeforeReports, last_of, last_rest_end, rested_reports}
use Rattle.crew_history.proofs.OfDuties.{free_minutes_told}
use Rattle.crew_long.specs.RestEnds.{board_rest, rest_end_at}
use Rattle.crew_long.specs.Machinery.Folds.{value_from, value_by}
use Rattle.crew_long.specs.Machinery.RestStages.{open_rest, extend_rest}
use Rattle.crew_long.specs.declared.rest_end.RestEnd.{RestEnd}

-- the end of the last long rest, one duty on
abbrev after_rest : ℤ → Duty → Duty → ℤ
after_rest e last next = cond (int_le (pos 1_800) (rest last next)) next.report e

-- at no report have more than 8,280 minutes passed
abbrev AllSoon : ℤ → Duty → List Duty → Type 0
AllSoon e last [] = (last.report -ℤ e) ≤ℤ pos 8_280
AllSoon e last (next ∷ others) = ((last.report -ℤ e) ≤ℤ pos 8_280) × AllSoon (after_rest e last next) next others

first_soon : (e : ℤ) (last : Duty) (others : List Duty) → AllSoon e last others → (last.report -ℤ e) ≤ℤ pos 8_280
first_soon e last [] a = a
first_soon e last (next ∷ others) a = a.0

choose : (b : Bool) (e report : ℤ) (reports : List ℤ) → last_of e (cond b (report ∷ reports) reports) ≡ last_of (cond b report e) reports
choose true e report reports = refl
choose false e report reports = refl

le_yes : (a b : ℤ) → a ≤ℤ b → int_le a b ≡ true
le_yes a b h = grind (arith, ints)

le_is : (a b : ℤ) → int_le a b ≡ true → a ≤ℤ b
le_is a b h = grind (arith, ints)

taken : {V : Type 0} (t : Bool) (v c : V) → cond t (Some v) None ≡ Some c → (t ≡ true) × (v ≡ c)
taken true v c e = (refl, let q : v ≡ c = (cc) in q)
taken false v c e = absurd (let q : ⊥ = (cc) in q)

boards : (e : ℤ) (d : Duty) → (d.report -ℤ e) ≤ℤ pos 8_280 → board_rest true (rest_end_at e) d ≡ Some (rest_end_at e)
boards e d h = ap (λ t. cond t (Some (rest_end_at e)) None) (le_yes (d.report -ℤ e) (pos 8_280) h)

valued : (e : ℤ) (last : Duty) (others : List Duty) → AllSoon e last others
    → value_from (extend_rest true) (rest_end_at e) last others ≡ Some (rest_end_at (last_of e (rested_reports last others)))
valued e last [] a = refl
valued e last (next ∷ others) a =
    ap (option_and_then (λ w. value_from (extend_rest true) w next others)) (boards (after_rest e last next) next (first_soon (after_rest e last next) next others a.1))
    ∙ (valued (after_rest e last next) next others a.1
    ∙ ap (λ z. Some (rest_end_at z)) (sym (choose (int_le (pos 1_800) (rest last next)) e next.report (rested_reports next others))))

soon_from_value : (e : ℤ) (last : Duty) (others : List Duty) (v : RestEnd) → (last.report -ℤ e) ≤ℤ pos 8_280
    → value_from (extend_rest true) (rest_end_at e) last others ≡ Some v → AllSoon e last others
soon_from_value e last [] v h k = h
soon_from_value e last (next ∷ others) v h k =
    let e' = after_rest e last next in
    let out = and_then_out (λ w. value_from (extend_rest true) w next others) (extend_rest true (rest_end_at e) last next) v k in
    let test = taken (int_le (next.report -ℤ after_rest e last next) (pos 8_280)) (rest_end_at (after_rest e last next)) out.0 out.1 in (
      h,
      soon_from_value (after_rest e last next) next others v (le_is (next.report -ℤ after_rest e last next) (pos 8_280) test.0)
          (subst (λ w. value_from (extend_rest true) w next others ≡ Some v) (sym test.1) out.2),
    )

beginning_soon : (e : ℤ) (last : Duty) (others : List Duty) → AllSoon e last others → (before after : List Duty) → before ++ after ≡ others
    → ((last_duty last before).report -ℤ last_of e (rested_reports last before)) ≤ℤ pos 8_280
beginning_soon e last others a [] after w = first_soon e last others a
beginning_soon e last [] a (b ∷ before) after w = absurd (let q : ⊥ = (cc) in q)
beginning_soon e last (next ∷ others) a (b ∷ before) after w =
    let same : next ≡ b = (cc) in
    let whole : before ++ after ≡ others = (cc) in
    subst (λ z. ((last_duty last (z ∷ before)).report -ℤ last_of e (rested_reports last (z ∷ before))) ≤ℤ pos 8_280) same
    (subst (λ z. ((last_duty next before).report -ℤ z) ≤ℤ pos 8_280) (sym (choose (int_le (pos 1_800) (rest last next)) e next.report (rested_reports next before)))
    (beginning_soon (after_rest e last next) next others a.1 before after whole))

soon_from_beginnings : (e : ℤ) (last : Duty) (others : List Duty)
    → ((before after : List Duty) → before ++ after ≡ others → ((last_duty last before).report -ℤ last_of e (rested_reports last before)) ≤ℤ pos 8_280)
    → AllSoon e last others
soon_from_beginnings e last [] each = each [] [] refl
soon_from_beginnings e last (next ∷ others) each = (
  each [] (next ∷ others) refl,
  soon_from_beginnings (after_rest e last next) next others (λ before after w.
      subst (λ z. ((last_duty next before).report -ℤ z) ≤ℤ pos 8_280) (choose (int_le (pos 1_800) (rest last next)) e next.report (rested_reports next before))
      (each (next ∷ before) after (ap (λ z. next ∷ z) w))),
)

none_passed : (r : ℤ) → (r -ℤ r) ≤ℤ pos 8_280
none_passed r = omega (arith, ints)

opened : (first : Duty) → open_rest true first ≡ Some (rest_end_at first.report)
opened first = boards first.report first (none_passed first.report)

-- where free minutes lie before each report there is a value
pub rest_value : (is_on : Bool) (first : Duty) (others : List Duty) → is_on ≡ true → AreInOrder first others → IsFreeBeforeReports first others
    → value_by (open_rest is_on) (extend_rest is_on) (first ∷ others) ≡ Some (rest_end_at (last_rest_end first others))
rest_value false first others e o free = absurd (let q : ⊥ = (cc) in q)
rest_value true first others e o free =
    ap (option_and_then (λ w. value_from (extend_rest true) w first others)) (opened first)
    ∙ valued first.report first others (soon_from_beginnings first.report first others ((free_minutes_told first others o).0 free))

-- and nowhere else
pub value_frees : (is_on : Bool) (first : Duty) (others : List Duty) (v : RestEnd) → is_on ≡ true → AreInOrder first others
    → value_by (open_rest is_on) (extend_rest is_on) (first ∷ others) ≡ Some v → IsFreeBeforeReports first others
value_frees false first others v e o k = absurd (let q : ⊥ = (cc) in q)
value_frees true first others v e o k =
    let from : value_from (extend_rest true) (rest_end_at first.report) first others ≡ Some v =
    sym (ap (option_and_then (λ w. value_from (extend_rest true) w first others)) (opened first)) ∙ k in
    let soon = soon_from_value first.report first others v (none_passed first.report) from in
    (free_minutes_told first others o).1 (beginning_soon first.report first others soon)

same_from : (v : RestEnd) (last : Duty) (others : List Duty) → value_from (extend_rest false) v last others ≡ Some v
same_from v last [] = refl
same_from v last (next ∷ others) = same_from v next others

pub rest_off : (is_on : Bool) (first : Duty) (others : List Duty) → is_on ≡ false
    → value_by (open_rest is_on) (extend_rest is_on) (first ∷ others) ≡ Some (rest_end_at (pos 0))
rest_off true first others e = absurd (let q : ⊥ = (cc) in q)
rest_off false first others e = same_from (rest_end_at (pos 0)) first others
