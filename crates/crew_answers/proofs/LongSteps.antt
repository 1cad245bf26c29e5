-- The resource's start and step of a duty show the vector of the longer list.
use Rattle.std.proofs.Common.{◌≡◌, ℕ, true, List, [], ◌∷◌, ◌++◌, Option, Some, ℤ, sym, ◌∙◌, ap, subst}
use Rattle.crew_flights.specs.Timetable.{IsSound, Timetable}
use Rattle.crew_rules.specs.Settings.{IsChecked}
use Rattle.crew_rules.specs.declared.settings.Settings.{Settings}
use Rattle.crew_pairing.specs.Duties.{flights_of}
use Rattle.crew_pairing.specs.Pairings.{IsDuty, last_duty, may_stand_after}
use Rattle.crew_pairing.specs.declared.duty.Duty.{Duty}
use Rattle.crew_history.specs.LongPairings.{IsLongPartial}
use Rattle.crew_answers.specs.Locals.{grown, is_within_limits}
use Rattle.crew_answers.specs.LongVectors.{long_vector_of}
use Rattle.crew_answers.specs.Schedules.{IsDated}
use Rattle.crew_answers.specs.Shown.{long_resource, shown}
use Rattle.crew_answers.specs.declared.value.LongValue.{LongValue}
use Rattle.crew_answers.proofs.Grown as Grown
use Rattle.crew_answers.proofs.Grown.{first-in, first-out, partial-in, partial-out}
use Rattle.crew_answers.proofs.LongNodes.{all_of, at_most, extends, opens, tells, value-steps}

module _ (s : Settings) (t : Timetable) (base : List ℕ) (price : ℤ) (range : IsChecked s) (sound : IsSound t) (dated : IsDated t) where
  abbrev Partial : Duty → List Duty → Type 0
  Partial first others = IsLongPartial s (flights_of t) base first others

  abbrev starts : Duty → Option LongValue
  starts = opens (long_resource s price)

  abbrev steps : LongValue → Duty → Duty → Option LongValue
  steps = extends (long_resource s price)

  abbrev all : List Duty → Option LongValue
  all = all_of (long_resource s price)

  stepped : (first : Duty) (others : List Duty) (d : Duty) (u : LongValue) → all (first ∷ others) ≡ Some u → all (first ∷ (others ++ d ∷ [])) ≡ steps u (last_duty first others) d
  stepped = Grown.stepped s t base price sound LongValue starts steps at_most all (value-steps (long_resource s price)) (shown s) (tells s t base price range sound dated)

  told : (first : Duty) (others : List Duty) (v : LongValue) → Partial first others → all (first ∷ others) ≡ Some v → shown s (last_duty first others) v ≡ long_vector_of s price first others
  told = Grown.told s t base price sound LongValue starts steps at_most all (value-steps (long_resource s price)) (shown s) (tells s t base price range sound dated)

  told-longer : (first : Duty) (others : List Duty) (d : Duty) (v : LongValue) → Partial first (others ++ d ∷ []) → all (first ∷ (others ++ d ∷ [])) ≡ Some v → shown s d v ≡ long_vector_of s price first (others ++ d ∷ [])
  told-longer = Grown.told-longer s t base price sound LongValue starts steps at_most all (value-steps (long_resource s price)) (shown s) (tells s t base price range sound dated)

  longer-partial : (first : Duty) (others : List Duty) (d : Duty) (v : LongValue) → Partial first others → IsDuty s (flights_of t) d → may_stand_after s (last_duty first others) d ≡ true
      → all (first ∷ (others ++ d ∷ [])) ≡ Some v → Partial first (others ++ d ∷ [])
  longer-partial = Grown.longer-partial s t base price sound LongValue starts steps at_most all (value-steps (long_resource s price)) (shown s) (tells s t base price range sound dated)

  pub step-shows : (first : Duty) (others : List Duty) (d : Duty) (u v : LongValue) → Partial first others → all (first ∷ others) ≡ Some u → IsDuty s (flights_of t) d → may_stand_after s (last_duty first others) d ≡ true
      → steps u (last_duty first others) d ≡ Some v
      → (is_within_limits s d (grown s (last_duty first others) d (shown s (last_duty first others) u)) ≡ true)
      × (shown s d v ≡ grown s (last_duty first others) d (shown s (last_duty first others) u))
  step-shows first others d u v p value legal after step =
      let e = last_duty first others in
      let there = stepped first others d u value ∙ step in
      let q = longer-partial first others d v p legal after there in
      let o = partial-out s t base price sound range first others d p legal after q in
      let shows = told first others u p value in (
        subst (λ x. is_within_limits s d (grown s e d x) ≡ true) (sym shows) o.0,
        told-longer first others d v q there ∙ (o.1 ∙ ap (grown s e d) (sym shows)),
      )

  pub step-there : (first : Duty) (others : List Duty) (d : Duty) (u : LongValue) → Partial first others → all (first ∷ others) ≡ Some u → IsDuty s (flights_of t) d → may_stand_after s (last_duty first others) d ≡ true
      → is_within_limits s d (grown s (last_duty first others) d (shown s (last_duty first others) u)) ≡ true
      → (v : LongValue) × (steps u (last_duty first others) d ≡ Some v) × (shown s d v ≡ grown s (last_duty first others) d (shown s (last_duty first others) u))
  step-there first others d u p value legal after h =
      let e = last_duty first others in
      let shows = told first others u p value in
      let q = partial-in s t base price sound range first others d p legal after (subst (λ x. is_within_limits s d (grown s e d x) ≡ true) shows h) in
      let v = (tells s t base price range sound dated).value first (others ++ d ∷ []) q in
      let step = sym (stepped first others d u value) ∙ v.1 in
      (v.0, step, (step-shows first others d u v.0 p value legal after step).1)

  pub start-shows : (d : Duty) (v : LongValue) → IsDuty s (flights_of t) d → d.from ≡ base → starts d ≡ Some v
      → (is_within_limits s d (long_vector_of s price d []) ≡ true) × (shown s d v ≡ long_vector_of s price d [])
  start-shows d v legal leaves h =
      let k = (tells s t base price range sound dated).partial d [] v (legal, tt) leaves tt ((value-steps (long_resource s price)).opening d ∙ h) in
      (first-out s t base price sound range d k.0, k.1)

  pub start-there : (d : Duty) → IsDuty s (flights_of t) d → d.from ≡ base → is_within_limits s d (long_vector_of s price d []) ≡ true
      → (v : LongValue) × (starts d ≡ Some v) × (shown s d v ≡ long_vector_of s price d [])
  start-there d legal leaves h =
      let p = first-in s t base price sound range d legal leaves h in
      let v = (tells s t base price range sound dated).value d [] p in
      (v.0, sym ((value-steps (long_resource s price)).opening d) ∙ v.1, told d [] v.0 p v.1)
