-- The resource's values tell partials, and a front of values shows the front.
use Rattle.std.proofs.Common.{◌≡◌, ℕ, Bool, ◌&&◌, List, [], ◌∷◌, ◌++◌, length, Option, Some, ℤ, pos, refl, sym, ◌∙◌, ap}
use Rattle.std.specs.Option.{option_map}
use Rattle.crew_flights.specs.Timetable.{IsSound, Timetable}
use Rattle.crew_rules.specs.Settings.{IsChecked}
use Rattle.crew_rules.specs.declared.settings.Settings.{Settings}
use Rattle.crew_resource.specs.Labels.{IsFront}
use Rattle.crew_resource.specs.Machinery.Both.{both, both_extend}
use Rattle.crew_resource.specs.Machinery.BothLaws.{both_order, both_steps}
use Rattle.crew_resource.specs.Resource.{StepLaws}
use Rattle.crew_resource.proofs.Order.{IsOrder}
use Rattle.crew_resource.proofs.Values.{below_order}
use Rattle.crew_pairing.specs.Duties.{AreDuties, flights_of}
use Rattle.crew_pairing.specs.Keys.{walk_at_most}
use Rattle.crew_pairing.specs.Legs.{Leg}
use Rattle.crew_pairing.specs.Pairings.{IsDuty}
use Rattle.crew_pairing.specs.declared.duty.Duty.{Duty}
use Rattle.crew_pairing.specs.declared.vector.PairingVector.{PairingVector}
use Rattle.crew_vector.specs.Dominance as Plain
use Rattle.crew_vector.specs.Machinery.Named.{named_order}
use Rattle.crew_vector.specs.Machinery.Numbers.{named, numbers_of}
use Rattle.crew_vector.specs.Machinery.Sides as Sides
use Rattle.crew_vector.specs.Machinery.VectorLaws.{vector_steps}
use Rattle.crew_vector.specs.Values.{value_of}
use Rattle.crew_vector.proofs.Valued.{composed-value}
use Rattle.crew_long.specs.Recents.{recent_at_most, recent_periods}
use Rattle.crew_long.specs.RestEnds.{rest_end_at_most}
use Rattle.crew_long.specs.Machinery.Folds.{value_by}
use Rattle.crew_long.specs.Machinery.RecentStages.{extend_recent, open_recent, recent_order, recent_steps}
use Rattle.crew_long.specs.Machinery.RestOrder.{rest_end_order}
use Rattle.crew_long.specs.Machinery.RestStages.{extend_rest, open_rest, rest_steps}
use Rattle.crew_long.specs.declared.recent.Recent.{Recent}
use Rattle.crew_long.specs.declared.rest_end.RestEnd.{RestEnd}
use Rattle.crew_answers.specs.Fronts.{IsFrontAt}
use Rattle.crew_answers.specs.LongVectors.{is_long, settings_of_sums}
use Rattle.crew_answers.specs.Machinery.Joined.{joined, parts_of}
use Rattle.crew_answers.specs.Machinery.JoinedLaws.{joined_order, joined_steps, unjoined}
use Rattle.crew_answers.specs.Schedules.{IsDated}
use Rattle.crew_answers.specs.Shown.{long_resource, shown, shown_entries}
use Rattle.crew_answers.specs.declared.resource.LongResource.{LongResource}
use Rattle.crew_answers.specs.declared.value.LongValue.{LongValue}
use Rattle.crew_answers.proofs.Nodes as Nodes
use Rattle.crew_answers.proofs.Parts as Parts
use Rattle.crew_answers.proofs.Recalled.{recalls}
use Rattle.crew_answers.proofs.Told.{Tells}

abbrev pub at_most : LongValue → LongValue → Bool
at_most a b = Plain.is_at_most a.sums b.sums && (rest_end_at_most a.rest_end b.rest_end && recent_at_most a.recent b.recent)

pub value-order : IsOrder at_most
value-order = below_order (joined_order _ _ (both_order _ _ _ _ named_order (both_order _ _ _ _ rest_end_order recent_order)))

module _ (r : LongResource) where
  abbrev pub opens : Duty → Option LongValue
  opens d = option_map joined (both (option_map named (Sides.opened r.sums d)) (both (open_rest r.rest.is_on d) (open_recent r.window.is_on r.window.cap d)))

  abbrev pub extends : LongValue → Duty → Duty → Option LongValue
  extends v e d = option_map joined (both_extend (λ v e d. option_map named (Sides.stepped r.sums (numbers_of v) e d)) (both_extend (extend_rest r.rest.is_on) (extend_recent r.window.is_on r.window.cap)) (parts_of v) e d)

  abbrev pub all_of : List Duty → Option LongValue
  all_of ds = option_map joined (both (option_map named (Sides.summed r.sums ds))
      (both (value_by (open_rest r.rest.is_on) (extend_rest r.rest.is_on) ds) (value_by (open_recent r.window.is_on r.window.cap) (extend_recent r.window.is_on r.window.cap) ds)))

  pub value-steps : StepLaws opens extends at_most all_of
  value-steps = joined_steps _ _ _ _ (both_steps _ _ _ _ _ _ _ _ (vector_steps r.sums)
      (both_steps _ _ _ _ _ _ _ _ (rest_steps r.rest.is_on) (recent_steps r.window.is_on r.window.cap)))

module _ (s : Settings) (t : Timetable) (base : List ℕ) (price : ℤ) (range : IsChecked s) (sound : IsSound t) (dated : IsDated t) where
  abbrev pub Sums : Settings
  Sums = settings_of_sums s

  abbrev pub rest_of : List Duty → Option RestEnd
  rest_of ds = value_by (open_rest (is_long s)) (extend_rest (is_long s)) ds

  abbrev pub third_of : List Duty → Option Recent
  third_of ds = value_by (open_recent (is_long s) (pos s.fdp_cap)) (extend_recent (is_long s) (pos s.fdp_cap)) ds

  abbrev pub all : List Duty → Option LongValue
  all = all_of (long_resource s price)

  pub out : (ds : List Duty) (v : LongValue) → all ds ≡ Some v → both (value_of Sums price ds) (both (rest_of ds) (third_of ds)) ≡ Some (parts_of v)
  out ds v e =
      ap (λ z. both z (both (rest_of ds) (third_of ds))) (sym (composed-value Sums price ds))
      ∙ unjoined (both (option_map named (Sides.summed (long_resource s price).sums ds)) (both (rest_of ds) (third_of ds))) v e

  back : (ds : List Duty) (p : PairingVector × (RestEnd × Recent)) → both (value_of Sums price ds) (both (rest_of ds) (third_of ds)) ≡ Some p → (v : LongValue) × (all ds ≡ Some v)
  back ds p e = (joined p, ap (option_map joined) (ap (λ z. both z (both (rest_of ds) (third_of ds))) (composed-value Sums price ds) ∙ e))

  pub tells : Tells s t base price LongValue at_most all (shown s)
  tells = Parts.tells s t base price range sound Recent third_of recent_periods recent_at_most (recalls s t base price range sound dated)
      LongValue at_most all parts_of out back (λ u v. refl)

  pub same-length : (xs ys : List Duty) (x y : Duty) (v : LongValue) → all (xs ++ x ∷ []) ≡ Some v → all (ys ++ y ∷ []) ≡ Some v → length (xs ++ x ∷ []) ≡ length (ys ++ y ∷ [])
  same-length xs ys x y v e f =
      let told : (ds : List Duty) → all ds ≡ Some v → pos (length ds) ≡ v.sums.duties = λ ds k.
      Parts.told-length s t base price range sound Recent third_of recent_periods recent_at_most (recalls s t base price range sound dated)
      LongValue at_most all parts_of out back (λ u v. refl) ds v k in
      let q : pos (length (xs ++ x ∷ [])) ≡ pos (length (ys ++ y ∷ [])) = told (xs ++ x ∷ []) e ∙ sym (told (ys ++ y ∷ []) f) in
      (cc)

  module _ (duties : List Duty) (are : AreDuties s t duties) where
    abbrev PathAt : Duty → LongValue → List (List Leg) → Type 0
    PathAt = Nodes.PathAt s t base price sound duties are LongValue (opens (long_resource s price)) (extends (long_resource s price)) at_most all value-order (value-steps (long_resource s price)) (shown s) tells same-length

    abbrev CleanAt : Duty → LongValue → List (List Leg) → Type 0
    CleanAt = Nodes.CleanAt s t base price sound duties are LongValue (opens (long_resource s price)) (extends (long_resource s price)) at_most all value-order (value-steps (long_resource s price)) (shown s) tells same-length

    pub shown-front : (d : Duty) → IsDuty s (flights_of t) d → (entries : List (LongValue × List (List Leg))) → IsFront at_most walk_at_most (PathAt d) (CleanAt d) entries
        → IsFrontAt s t base price d (shown_entries s d entries)
    shown-front = Nodes.shown-front s t base price sound duties are LongValue (opens (long_resource s price)) (extends (long_resource s price)) at_most all value-order (value-steps (long_resource s price)) (shown s) tells same-length
