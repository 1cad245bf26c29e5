-- The theory at the nodes of a timetable, by histories of any length.
use Rattle.std.proofs.Common.{◌≡◌, ℕ, ◌<◌, Bool, true, ◌&&◌, List, [], ◌∷◌, ◌++◌, length, Option, Some, ℤ, pos, refl, sym, ◌∙◌, ap, arith}
use Rattle.std.proofs.lemmas.Bool.{and_from, and_parts}
use Rattle.std.proofs.lemmas.Int.{ints}
use Rattle.crew_flights.specs.Timetable.{IsSound, Timetable}
use Rattle.crew_rules.specs.Settings.{IsChecked}
use Rattle.crew_rules.specs.declared.settings.Settings.{Settings}
use Rattle.crew_resource.specs.Machinery.Both.{both}
use Rattle.crew_resource.specs.Machinery.BothLaws.{both_steps}
use Rattle.crew_resource.specs.Resource.{StepLaws}
use Rattle.crew_resource.specs.Labels.{IsFront}
use Rattle.crew_resource.specs.Members.{Member}
use Rattle.crew_resource.proofs.Order.{IsOrder}
use Rattle.crew_resource.proofs.Scratch.{Right, some_front}
use Rattle.crew_resource.proofs.Step.{Rules}
use Rattle.crew_resource.proofs.Values.{below_order}
use Rattle.crew_pairing.specs.Duties.{AreDuties, flights_of}
use Rattle.crew_pairing.specs.Keys.{walk_at_most}
use Rattle.crew_pairing.specs.Legs.{Leg}
use Rattle.crew_pairing.specs.Machinery.Listing.{all_duties}
use Rattle.crew_pairing.specs.Pairings.{IsDuty}
use Rattle.crew_pairing.specs.declared.duty.Duty.{Duty}
use Rattle.crew_pairing.proofs.InOrder.{all-duties}
use Rattle.crew_pairing.proofs.Timetables.{flights-of-timetable}
use Rattle.crew_vector.specs.Dominance as Plain
use Rattle.crew_vector.specs.Values.{value_of}
use Rattle.crew_vector.proofs.Orders.{walk-either}
use Rattle.crew_vector.proofs.Steps as Sums
use Rattle.crew_long.specs.RestEnds.{rest_end_at_most}
use Rattle.crew_long.specs.Machinery.Folds.{value_by}
use Rattle.crew_long.specs.Machinery.RestOrder.{rest_end_order}
use Rattle.crew_long.specs.Machinery.RestStages.{extend_rest, open_rest, rest_steps}
use Rattle.crew_answers.specs.Dominance.{is_at_most}
use Rattle.crew_answers.specs.Fronts.{At, Clean, IsFrontAt, IsUndominated}
use Rattle.crew_answers.specs.LongVectors.{LongVector, is_long, settings_of_sums}
use Rattle.crew_answers.specs.Machinery.Ranks.{rank_of}
use Rattle.crew_answers.proofs.Growth.{Value, started, stepped}
use Rattle.crew_answers.proofs.KeptHistories.{Kept, kept-keeps, kept-off, kept-order, kept-steps, kept-value, kept_at_most, kept_of, none-kept, none-periods}
use Rattle.crew_answers.proofs.Nodes as Nodes
use Rattle.crew_answers.proofs.Parts as Parts
use Rattle.crew_answers.proofs.Parts.{Recalls}
use Rattle.crew_answers.proofs.Told as Told
use Rattle.crew_answers.proofs.Told.{Listed, Tells, compared, listed, shown_entries}

both-order : {A B : Type 0} (la : A → A → Bool) (lb : B → B → Bool) → IsOrder la → IsOrder lb → IsOrder {V = A × B} (λ x y. la x.0 y.0 && lb x.1 y.1)
both-order la lb p q = record {
  reflexive = λ a. and_from (la a.0 a.0) (lb a.1 a.1) (p.reflexive a.0) (q.reflexive a.1);
  transitive = λ a b c h k.
      let f = and_parts (la a.0 b.0) (lb a.1 b.1) h in
      let g = and_parts (la b.0 c.0) (lb b.1 c.1) k in
      and_from (la a.0 c.0) (lb a.1 c.1) (p.transitive a.0 b.0 c.0 f.0 g.0) (q.transitive a.1 b.1 c.1 f.1 g.1);
  antisymmetric = λ a b h k.
      let f = and_parts (la a.0 b.0) (lb a.1 b.1) h in
      let g = and_parts (la b.0 a.0) (lb b.1 a.1) k in
      ap (λ z. (z, a.1)) (p.antisymmetric a.0 b.0 f.0 g.0) ∙ ap (λ z. (b.0, z)) (q.antisymmetric a.1 b.1 f.1 g.1);
}

abbrev pub at_most : Value → Value → Bool
at_most a b = Plain.is_at_most a.0 b.0 && (rest_end_at_most a.1.0 b.1.0 && kept_at_most a.1.1 b.1.1)

pub value-order : IsOrder at_most
value-order = both-order Plain.is_at_most (λ x y. rest_end_at_most x.0 y.0 && kept_at_most x.1 y.1) Sums.vector-order
    (both-order rest_end_at_most kept_at_most (below_order rest_end_order) kept-order)

module _ (s : Settings) (price : ℤ) where
  abbrev pub opens : Duty → Option Value
  opens = started s price

  abbrev pub extends : Value → Duty → Duty → Option Value
  extends = stepped s

  abbrev pub all_of : List Duty → Option Value
  all_of ds = both (value_of (settings_of_sums s) price ds) (both (value_by (open_rest (is_long s)) (extend_rest (is_long s)) ds) (kept_of (is_long s) (pos s.fdp_cap) ds))

  pub value-steps : StepLaws opens extends at_most all_of
  value-steps =
      both_steps _ _ _ _ _ _ _ _ (Sums.steps (settings_of_sums s) price)
      (both_steps _ _ _ _ _ _ _ _ (rest_steps (is_long s)) (kept-steps (is_long s) (pos s.fdp_cap)))

module _ (s : Settings) (t : Timetable) (base : List ℕ) (price : ℤ) (range : IsChecked s) (sound : IsSound t) where
  pub recalls : Recalls s t base price range sound Kept (kept_of (is_long s) (pos s.fdp_cap)) (λ v. v.periods) kept_at_most
  recalls = record {
    value = λ first others e p. kept-value (is_long s) (pos s.fdp_cap) first others e (omega (arith, ints))
        (Parts.ordered s t base price range sound first others p.legal p.rested) p.windows;
    keeps = λ first others w e o k. kept-keeps (is_long s) (pos s.fdp_cap) first others w e (omega (arith, ints)) o k;
    off = λ e. (none-kept, none-periods, kept-off (is_long s) (pos s.fdp_cap) e);
    decides = λ first others other_first other_others u v p q e f h. refl;
  }

  abbrev pub shown : Duty → Value → LongVector
  shown = Parts.shows s t base price range sound Kept (kept_of (is_long s) (pos s.fdp_cap)) (λ v. v.periods) kept_at_most recalls
      Value at_most (all_of s price) (λ v. v) (λ ds v e. e) (λ ds p e. (p, e)) (λ u v. refl)

  pub tells : Tells s t base price Value at_most (all_of s price) shown
  tells = Parts.tells s t base price range sound Kept (kept_of (is_long s) (pos s.fdp_cap)) (λ v. v.periods) kept_at_most recalls
      Value at_most (all_of s price) (λ v. v) (λ ds v e. e) (λ ds p e. (p, e)) (λ u v. refl)

  pub same-length : (xs ys : List Duty) (x y : Duty) (v : Value) → all_of s price (xs ++ x ∷ []) ≡ Some v → all_of s price (ys ++ y ∷ []) ≡ Some v
      → length (xs ++ x ∷ []) ≡ length (ys ++ y ∷ [])
  same-length xs ys x y v e f =
      let told : (ds : List Duty) → all_of s price ds ≡ Some v → pos (length ds) ≡ v.0.duties = λ ds k.
      Parts.told-length s t base price range sound Kept (kept_of (is_long s) (pos s.fdp_cap)) (λ v. v.periods) kept_at_most recalls
      Value at_most (all_of s price) (λ v. v) (λ ds v e. e) (λ ds p e. (p, e)) (λ u v. refl) ds v k in
      let q : pos (length (xs ++ x ∷ [])) ≡ pos (length (ys ++ y ∷ [])) = told (xs ++ x ∷ []) e ∙ sym (told (ys ++ y ∷ []) f) in
      (cc)

  pub duties : List Duty
  duties = all_duties s (flights_of t)

  pub are-duties : AreDuties s t duties
  unfolding duties
  are-duties = all-duties s (flights_of t) (flights-of-timetable t sound)

  pub each-clean : (d : Duty) (x : LongVector) → IsUndominated s t base price d x → (w : List (List Leg)) × Clean s t base price d x w
  each-clean = Nodes.each-clean s t base price sound duties are-duties Value (opens s price) (extends s price) at_most (all_of s price) value-order (value-steps s price) shown tells same-length

  pub each-below : (d : Duty) (x : LongVector) (y : List (List Leg)) → At s t base price d x y
      → (v : LongVector) × IsUndominated s t base price d v × (is_at_most v x ≡ true)
  each-below = Nodes.each-below s t base price sound duties are-duties Value (opens s price) (extends s price) at_most (all_of s price) value-order (value-steps s price) shown tells same-length

  pub node-front : (d : Duty) → IsDuty s (flights_of t) d → (entries : List (LongVector × List (List Leg))) × IsFrontAt s t base price d entries
  node-front = Nodes.node-front s t base price sound duties are-duties Value (opens s price) (extends s price) at_most (all_of s price) value-order (value-steps s price) shown tells same-length

  abbrev pub PathAt : Duty → Value → List (List Leg) → Type 0
  PathAt = Nodes.PathAt s t base price sound duties are-duties Value (opens s price) (extends s price) at_most (all_of s price) value-order (value-steps s price) shown tells same-length

  abbrev pub CleanAt : Duty → Value → List (List Leg) → Type 0
  CleanAt = Nodes.CleanAt s t base price sound duties are-duties Value (opens s price) (extends s price) at_most (all_of s price) value-order (value-steps s price) shown tells same-length

  abbrev pub One : Duty → List (List Leg)
  One = Nodes.One s t base price sound duties are-duties Value (opens s price) (extends s price) at_most (all_of s price) value-order (value-steps s price) shown tells same-length

  abbrev pub More : List (List Leg) → Duty → List (List Leg)
  More = Nodes.More s t base price sound duties are-duties Value (opens s price) (extends s price) at_most (all_of s price) value-order (value-steps s price) shown tells same-length

  abbrev pub Opening : Duty → Option Value
  Opening = Nodes.Opening s t base price sound duties are-duties Value (opens s price) (extends s price) at_most (all_of s price) value-order (value-steps s price) shown tells same-length

  abbrev pub Preds : Duty → List Duty
  Preds = Nodes.Preds s t base price sound duties are-duties Value (opens s price) (extends s price) at_most (all_of s price) value-order (value-steps s price) shown tells same-length

  pub node-rules : Rules Duty Value (List (List Leg)) One More Opening (extends s price) (λ e d. Member (Preds d) e) at_most walk_at_most PathAt CleanAt
  node-rules = Nodes.node-rules s t base price sound duties are-duties Value (opens s price) (extends s price) at_most (all_of s price) value-order (value-steps s price) shown tells same-length

  pub arcs-rise : (e d : Duty) → Member (Preds d) e → rank_of duties e < rank_of duties d
  arcs-rise = Nodes.arcs-rise s t base price sound duties are-duties Value (opens s price) (extends s price) at_most (all_of s price) value-order (value-steps s price) shown tells same-length

  pub some : (d : Duty) → (entries : List (Value × List (List Leg))) × Right Duty Value (List (List Leg)) One More Opening (extends s price) Preds at_most walk_at_most PathAt CleanAt node-rules (rank_of duties) arcs-rise d entries
  some = some_front Duty Value (List (List Leg)) One More Opening (extends s price) Preds at_most walk_at_most PathAt CleanAt node-rules (rank_of duties) arcs-rise walk-either

  pub node-known : (d : Duty) → IsDuty s (flights_of t) d → Member duties d
  node-known = Nodes.node-known s t base price sound duties are-duties Value (opens s price) (extends s price) at_most (all_of s price) value-order (value-steps s price) shown tells same-length

  pub known-legal : (d : Duty) → Member duties d → IsDuty s (flights_of t) d
  known-legal d m = are-duties.sound d m

  pub shown-front : (d : Duty) → IsDuty s (flights_of t) d → (entries : List (Value × List (List Leg))) → IsFront at_most walk_at_most (PathAt d) (CleanAt d) entries
      → IsFrontAt s t base price d (shown_entries (shown d) entries)
  shown-front = Nodes.shown-front s t base price sound duties are-duties Value (opens s price) (extends s price) at_most (all_of s price) value-order (value-steps s price) shown tells same-length

  pub path-listed : (d : Duty) → Member duties d → (v : Value) (w : List (List Leg)) (p : PathAt d v w) → Listed s t base price duties are-duties Value (opens s price) (extends s price) at_most (all_of s price) value-order (value-steps s price) shown tells d v w p.before
  path-listed = listed s t base price duties are-duties Value (opens s price) (extends s price) at_most (all_of s price) value-order (value-steps s price) shown tells

  pub paths-compared : (d : Duty) → Member duties d → (u : Value) (y : List (List Leg)) (v : Value) (w : List (List Leg)) → PathAt d u y → PathAt d v w → at_most u v ≡ is_at_most (shown d u) (shown d v)
  paths-compared = compared s t base price duties are-duties Value (opens s price) (extends s price) at_most (all_of s price) value-order (value-steps s price) shown tells

  pub same-shown : (d : Duty) → Member duties d → (u : Value) (y : List (List Leg)) (v : Value) (w : List (List Leg)) → PathAt d u y → PathAt d v w → shown d u ≡ shown d v → u ≡ v
  same-shown = Told.same-shown s t base price duties are-duties Value (opens s price) (extends s price) at_most (all_of s price) value-order (value-steps s price) shown tells
