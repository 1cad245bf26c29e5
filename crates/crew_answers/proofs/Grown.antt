-- A partial with one duty more, by its vector: lists grow duty by duty as vectors do.
use Rattle.std.proofs.Common.{◌≡◌, ℕ, Bool, true, false, cond, List, [], ◌∷◌, ◌++◌, map, ◌⊎◌, inl, inr, Option, Some, None, ℤ, pos, ◌+ℤ◌, ◌-ℤ◌, refl, sym, ◌∙◌, ap, subst, ⊎_elim, arith}
use Rattle.std.specs.Prelude.{◌<ℤ◌}
use Rattle.std.specs.Option.{option_and_then}
use Rattle.std.proofs.lemmas.Int.{ints}
use Rattle.crew_flights.specs.Timetable.{IsSound, Timetable}
use Rattle.crew_rules.specs.Settings.{IsChecked}
use Rattle.crew_rules.specs.declared.settings.Settings.{Settings}
use Rattle.crew_resource.specs.Members.{Each}
use Rattle.crew_resource.specs.Resource.{StepLaws}
use Rattle.crew_pairing.specs.Duties.{flights_of}
use Rattle.crew_pairing.specs.Pairings.{AllRested, IsDuty, last_duty, may_stand_after}
use Rattle.crew_pairing.specs.declared.duty.Duty.{Duty}
use Rattle.crew_vector.proofs.Cuts.{before_last, last-pushed, last-split, whole-split}
use Rattle.crew_vector.proofs.Extended.{none-goes-on}
use Rattle.crew_history.specs.Histories.{EndsBefore, follows}
use Rattle.crew_history.specs.Limits.{IsTimed, arrival, history_of, period_of}
use Rattle.crew_history.specs.LongPairings.{IsLongPartial}
use Rattle.crew_history.proofs.Histories.{ends_before_cut, follows_decides}
use Rattle.crew_history.proofs.LegalOrder.{in_order}
use Rattle.crew_answers.specs.Locals.{grown, is_within_limits}
use Rattle.crew_answers.specs.LongVectors.{LongVector, is_long, long_vector_of}
use Rattle.crew_answers.proofs.Growth.{Value, periods-end, start-in, start-out, step-in, step-out}
use Rattle.crew_answers.proofs.PlainNodes as Plain
use Rattle.crew_answers.proofs.Ranking.{later-report}
use Rattle.crew_answers.proofs.Told.{Tells, each-beginning, rested-beginning}

each-pushed : (P : Duty → Type 0) (ds : List Duty) (d : Duty) → Each P ds → P d → Each P (ds ++ d ∷ [])
each-pushed P [] d h k = (k, tt)
each-pushed P (x ∷ ds) d h k = (h.0, each-pushed P ds d h.1 k)

rested-pushed : (s : Settings) (first : Duty) (others : List Duty) (d : Duty) → AllRested s first others → may_stand_after s (last_duty first others) d ≡ true → AllRested s first (others ++ d ∷ [])
rested-pushed s first [] d h k = (k, tt)
rested-pushed s first (next ∷ others) d h k = (h.0, rested-pushed s next others d h.1 k)

last-each : (P : Duty → Type 0) (ds : List Duty) (d : Duty) → Each P (ds ++ d ∷ []) → P d
last-each P [] d h = h.0
last-each P (x ∷ ds) d h = last-each P ds d h.1

later-period : (r f : ℤ) → pos 0 <ℤ f → r <ℤ (r +ℤ f)
later-period r f h = omega (arith, ints)

module _ (s : Settings) (t : Timetable) (base : List ℕ) (price : ℤ) (sound : IsSound t) where
  pub timed : (d : Duty) → IsDuty s (flights_of t) d → IsTimed d
  timed d legal = in_order s t d [] sound (legal, tt) tt

  abbrev Partial : Duty → List Duty → Type 0
  Partial first others = IsLongPartial s (flights_of t) base first others

  -- what the plain value of a partial before d knows of the past
  pub past : (first : Duty) (others : List Duty) (d : Duty) → Partial first others → IsDuty s (flights_of t) d → may_stand_after s (last_duty first others) d ≡ true → (u : Value)
      → u.1.1.periods ≡ cond (is_long s) (history_of first others) []
      → (is_long s ≡ true → follows u.1.1.periods (period_of d) ≡ true) × (is_long s ≡ false → u.1.1.periods ≡ [])
  past first others d p legal after u history =
      let order = in_order s t first others sound p.legal p.rested in
      let ends = ends_before_cut (arrival (last_duty first others) -ℤ pos 10_080) (map period_of (first ∷ others)) d.report
      (periods-end first others d.report order (later-report s (last_duty first others) d after)) in
      let is = λ (b : Bool) (e : is_long s ≡ b). history ∙ ap (λ b. cond b (history_of first others) []) e in (
        λ on. (follows_decides u.1.1.periods (period_of d) u.1.1.in_order).1
            (subst (λ h. EndsBefore h d.report) (sym (is true on)) ends) (later-period d.report d.fdp (timed d legal).nonempty),
        λ off. is false off,
      )

  -- by any values that tell partials
  module _ (V : Type 0) (opens : Duty → Option V) (extends : V → Duty → Duty → Option V) (le : V → V → Bool) (value_of : List Duty → Option V)
      (steps : StepLaws opens extends le value_of) (shown : Duty → V → LongVector) (tells : Tells s t base price V le value_of shown) where
    -- the value of a list with one duty more is the step's
    pub stepped : (first : Duty) (others : List Duty) (d : Duty) (u : V) → value_of (first ∷ others) ≡ Some u → value_of (first ∷ (others ++ d ∷ [])) ≡ extends u (last_duty first others) d
    stepped first others d u e =
        let bs = before_last first others in
        let last = last_duty first others in
        ap value_of (sym (last-split first others (d ∷ [])))
        ∙ (steps.extension bs last d ∙ ap (option_and_then (λ v. extends v last d)) (ap value_of (whole-split first others) ∙ e))

    pub told : (first : Duty) (others : List Duty) (v : V) → Partial first others → value_of (first ∷ others) ≡ Some v → shown (last_duty first others) v ≡ long_vector_of s price first others
    told first others v p e = (tells.partial first others v p.legal p.leaves p.rested e).1

    pub told-longer : (first : Duty) (others : List Duty) (d : Duty) (v : V) → Partial first (others ++ d ∷ []) → value_of (first ∷ (others ++ d ∷ [])) ≡ Some v → shown d v ≡ long_vector_of s price first (others ++ d ∷ [])
    told-longer first others d v p e = subst (λ z. shown z v ≡ long_vector_of s price first (others ++ d ∷ [])) (last-pushed first others d) (told first (others ++ d ∷ []) v p e)

    pub longer-partial : (first : Duty) (others : List Duty) (d : Duty) (v : V) → Partial first others → IsDuty s (flights_of t) d → may_stand_after s (last_duty first others) d ≡ true
        → value_of (first ∷ (others ++ d ∷ [])) ≡ Some v → Partial first (others ++ d ∷ [])
    longer-partial first others d v p legal after e =
        (tells.partial first (others ++ d ∷ []) v (each-pushed (IsDuty s (flights_of t)) (first ∷ others) d p.legal legal) p.leaves (rested-pushed s first others d p.rested after) e).0

  module _ (range : IsChecked s) where
    abbrev all : List Duty → Option Value
    all = Plain.all_of s price

    abbrev Shown : Duty → Value → LongVector
    Shown = Plain.shown s t base price range sound

    tells : Tells s t base price Value Plain.at_most all Shown
    tells = Plain.tells s t base price range sound

    abbrev plain_steps : StepLaws (Plain.opens s price) (Plain.extends s price) Plain.at_most all
    plain_steps = Plain.value-steps s price

    plain-told : (first : Duty) (others : List Duty) (v : Value) → Partial first others → all (first ∷ others) ≡ Some v → Shown (last_duty first others) v ≡ long_vector_of s price first others
    plain-told = told Value (Plain.opens s price) (Plain.extends s price) Plain.at_most all plain_steps Shown tells

    -- a longer partial is within the limits, and its vector is grown
    pub partial-out : (first : Duty) (others : List Duty) (d : Duty) → Partial first others → IsDuty s (flights_of t) d → may_stand_after s (last_duty first others) d ≡ true
        → Partial first (others ++ d ∷ [])
        → (is_within_limits s d (grown s (last_duty first others) d (long_vector_of s price first others)) ≡ true)
        × (long_vector_of s price first (others ++ d ∷ []) ≡ grown s (last_duty first others) d (long_vector_of s price first others))
    partial-out first others d p legal after q =
        let e = last_duty first others in
        let u = tells.value first others p in
        let z = tells.value first (others ++ d ∷ []) q in
        let shows = plain-told first others u.0 p u.1 in
        let k = past first others d p legal after u.0 (ap (λ (x : LongVector). x.history) shows) in
        let step = sym (stepped Value (Plain.opens s price) (Plain.extends s price) Plain.at_most all plain_steps Shown tells first others d u.0 u.1) ∙ z.1 in
        let o = step-out s u.0 z.0 e d k.1 step in (
          subst (λ x. is_within_limits s d (grown s e d x) ≡ true) shows o.0,
          sym (told-longer Value (Plain.opens s price) (Plain.extends s price) Plain.at_most all plain_steps Shown tells first others d z.0 q z.1) ∙ (o.1 ∙ ap (grown s e d) shows),
        )

    -- and within the limits the longer list is a partial
    pub partial-in : (first : Duty) (others : List Duty) (d : Duty) → Partial first others → IsDuty s (flights_of t) d → may_stand_after s (last_duty first others) d ≡ true
        → is_within_limits s d (grown s (last_duty first others) d (long_vector_of s price first others)) ≡ true → Partial first (others ++ d ∷ [])
    partial-in first others d p legal after h =
        let e = last_duty first others in
        let u = tells.value first others p in
        let shows = plain-told first others u.0 p u.1 in
        let k = past first others d p legal after u.0 (ap (λ (x : LongVector). x.history) shows) in
        let z = step-in s u.0 e d k.0 k.1 (subst (λ x. is_within_limits s d (grown s e d x) ≡ true) (sym shows) h) in
        longer-partial Value (Plain.opens s price) (Plain.extends s price) Plain.at_most all plain_steps Shown tells first others d z.0 p legal after
        (stepped Value (Plain.opens s price) (Plain.extends s price) Plain.at_most all plain_steps Shown tells first others d u.0 u.1 ∙ z.1)

    -- one duty
    pub first-out : (d : Duty) → Partial d [] → is_within_limits s d (long_vector_of s price d []) ≡ true
    first-out d p =
        let z = tells.value d [] p in
        (start-out s price z.0 d (sym (plain_steps.opening d) ∙ z.1)).0

    pub first-in : (d : Duty) → IsDuty s (flights_of t) d → d.from ≡ base → is_within_limits s d (long_vector_of s price d []) ≡ true → Partial d []
    first-in d legal leaves h =
        let z = start-in s price d (timed d legal) h in
        (tells.partial d [] z.0 (legal, tt) leaves tt (plain_steps.opening d ∙ z.1)).0

    some-or-none : (o : Option Value) → ((v : Value) × (o ≡ Some v)) ⊎ (o ≡ None)
    some-or-none None = inr refl
    some-or-none (Some v) = inl (v, refl)

    -- beginnings of partials are partials
    pub beginning : (first : Duty) (taken left : List Duty) → Partial first (taken ++ left) → Partial first taken
    beginning first taken left p =
        let bs = before_last first taken in
        let e = last_duty first taken in
        let whole = tells.value first (taken ++ left) p in
        ⊎_elim
        (λ k. (tells.partial first taken k.0 (each-beginning (IsDuty s (flights_of t)) (first ∷ taken) left p.legal) p.leaves (rested-beginning s first taken left p.rested) k.1).0)
        (λ n.
        let gone = ap all (sym (last-split first taken left))
        ∙ none-goes-on Value Duty (Plain.opens s price) (Plain.extends s price) Plain.at_most all plain_steps bs e left (ap all (whole-split first taken) ∙ n) in
        absurd (let z : ⊥ = (cc) in z))
        (some-or-none (all (first ∷ taken)))
