-- The theory of fronts at the nodes of a timetable, by values that tell partials.
use Rattle.std.proofs.Common.{◌≡◌, ℕ, ◌<◌, Bool, true, List, [], ◌∷◌, ◌++◌, length, Option, Some, ℤ, sym, ◌∙◌, subst}
use Rattle.crew_flights.specs.Timetable.{IsSound, Timetable}
use Rattle.crew_rules.specs.declared.settings.Settings.{Settings}
use Rattle.crew_resource.specs.Labels.{IsFront}
use Rattle.crew_resource.specs.Members.{Member}
use Rattle.crew_resource.specs.Resource.{StepLaws}
use Rattle.crew_resource.proofs.Instance.{more, one, opening, preds, rules}
use Rattle.crew_resource.proofs.ListOrder.{lists_grow}
use Rattle.crew_resource.proofs.Members.{Member-filter_out}
use Rattle.crew_resource.proofs.Order.{IsOrder}
use Rattle.crew_resource.proofs.Scratch.{Right, clean_of_undominated, some_front, undominated_below}
use Rattle.crew_resource.proofs.Step.{Rules}
use Rattle.crew_pairing.specs.Duties.{AreDuties, flights_of}
use Rattle.crew_pairing.specs.Keys.{key_cmp, key_total, walk_at_most}
use Rattle.crew_pairing.specs.Legs.{Leg}
use Rattle.crew_pairing.specs.Pairings.{IsDuty, may_stand_after}
use Rattle.crew_pairing.specs.declared.duty.Duty.{Duty}
use Rattle.crew_vector.proofs.Orders.{walk-either, walk-order}
use Rattle.crew_answers.specs.Dominance.{is_at_most}
use Rattle.crew_answers.specs.Fronts.{At, Clean, IsFrontAt, IsUndominated}
use Rattle.crew_answers.specs.LongVectors.{LongVector}
use Rattle.crew_answers.specs.Machinery.Ranks.{rank_of}
use Rattle.crew_answers.proofs.Ranking.{rank-rises}
use Rattle.crew_answers.proofs.Told.{CleanPath, Path, Tells, at-legal, clean-from, compared, front-from, key_of, known-legal, legal-known, may_start, shown_entries, to-path, undominated-from, undominated-to}

module _ (s : Settings) (t : Timetable) (base : List ℕ) (price : ℤ) (sound : IsSound t) (duties : List Duty) (are : AreDuties s t duties)
    (V : Type 0) (opens : Duty → Option V) (extends : V → Duty → Duty → Option V) (le : V → V → Bool) (value_of : List Duty → Option V)
    (order : IsOrder le) (steps : StepLaws opens extends le value_of) (shown : Duty → V → LongVector)
    (tells : Tells s t base price V le value_of shown)
    (same_length : (xs ys : List Duty) (x y : Duty) (v : V) → value_of (xs ++ x ∷ []) ≡ Some v → value_of (ys ++ y ∷ []) ≡ Some v → length (xs ++ x ∷ []) ≡ length (ys ++ y ∷ [])) where
  abbrev pub PathAt : Duty → V → List (List Leg) → Type 0
  PathAt = Path s t base price duties are V opens extends le value_of order steps shown tells

  abbrev pub CleanAt : Duty → V → List (List Leg) → Type 0
  CleanAt = CleanPath s t base price duties are V opens extends le value_of order steps shown tells

  abbrev pub Key : Duty → List Leg
  Key = key_of s t base price duties are V opens extends le value_of order steps shown tells

  abbrev pub Starts : Duty → Bool
  Starts = may_start s t base price duties are V opens extends le value_of order steps shown tells

  abbrev pub One : Duty → List (List Leg)
  One = one Duty V (List Leg) Key duties Starts (may_stand_after s) opens extends le value_of order steps walk_at_most walk-order

  abbrev pub More : List (List Leg) → Duty → List (List Leg)
  More = more Duty V (List Leg) Key duties Starts (may_stand_after s) opens extends le value_of order steps walk_at_most walk-order

  abbrev pub Opening : Duty → Option V
  Opening = opening Duty V (List Leg) Key duties Starts (may_stand_after s) opens extends le value_of order steps walk_at_most walk-order

  abbrev pub Preds : Duty → List Duty
  Preds = preds Duty V (List Leg) Key duties Starts (may_stand_after s) opens extends le value_of order steps walk_at_most walk-order

  pub node-rules : Rules Duty V (List (List Leg)) One More Opening extends (λ e d. Member (Preds d) e) le walk_at_most PathAt CleanAt
  node-rules = rules Duty V (List Leg) Key duties Starts (may_stand_after s) opens extends le value_of order steps walk_at_most walk-order
      same_length (lists_grow key_cmp key_total)

  -- arcs go forward in time
  pub arcs-rise : (e d : Duty) → Member (Preds d) e → rank_of duties e < rank_of duties d
  arcs-rise e d m =
      let k = Member-filter_out (λ e. may_stand_after s e d) duties e m in
      rank-rises s t duties e d sound k.0 (known-legal s t base price duties are V opens extends le value_of order steps shown tells e k.0) k.1

  -- some front of each node
  pub some : (d : Duty) → (entries : List (V × List (List Leg))) × Right Duty V (List (List Leg)) One More Opening extends Preds le walk_at_most PathAt CleanAt node-rules (rank_of duties) arcs-rise d entries
  some = some_front Duty V (List (List Leg)) One More Opening extends Preds le walk_at_most PathAt CleanAt node-rules (rank_of duties) arcs-rise walk-either

  pub node-known : (d : Duty) → IsDuty s (flights_of t) d → Member duties d
  node-known = legal-known s t base price duties are V opens extends le value_of order steps shown tells

  pub at-known : (d : Duty) (x : LongVector) (w : List (List Leg)) → At s t base price d x w → Member duties d
  at-known d x w a = node-known d (at-legal s t base price duties are V opens extends le value_of order steps shown tells d x w a)

  pub shown-front : (d : Duty) → IsDuty s (flights_of t) d → (entries : List (V × List (List Leg))) → IsFront le walk_at_most (PathAt d) (CleanAt d) entries
      → IsFrontAt s t base price d (shown_entries (shown d) entries)
  shown-front d legal = front-from s t base price duties are V opens extends le value_of order steps shown tells d (node-known d legal)

  pub node-front : (d : Duty) → IsDuty s (flights_of t) d → (entries : List (LongVector × List (List Leg))) × IsFrontAt s t base price d entries
  node-front d legal = (shown_entries (shown d) (some d).0, shown-front d legal (some d).0 (some d).1.0)

  -- each undominated vector has a clean partial
  pub each-clean : (d : Duty) (x : LongVector) → IsUndominated s t base price d x → (w : List (List Leg)) × Clean s t base price d x w
  each-clean d x u =
      let k = at-known d x u.walk u.has in
      let p = to-path s t base price duties are V opens extends le value_of order steps shown tells d x u.walk u.has in
      let there = undominated-to s t base price duties are V opens extends le value_of order steps shown tells d k p.0 u.walk p.1
      (subst (IsUndominated s t base price d) (sym p.2) u) in
      let c = clean_of_undominated Duty V (List (List Leg)) One More Opening extends Preds le walk_at_most PathAt CleanAt node-rules (rank_of duties) arcs-rise walk-either d p.0 there in
      (c.0, subst (λ z. Clean s t base price d z c.0) p.2 (clean-from s t base price duties are V opens extends le value_of order steps shown tells d k p.0 c.0 c.1))

  -- under each partial lies an undominated vector
  pub each-below : (d : Duty) (x : LongVector) (y : List (List Leg)) → At s t base price d x y
      → (v : LongVector) × IsUndominated s t base price d v × (is_at_most v x ≡ true)
  each-below d x y a =
      let k = at-known d x y a in
      let p = to-path s t base price duties are V opens extends le value_of order steps shown tells d x y a in
      let u = undominated_below Duty V (List (List Leg)) One More Opening extends Preds le walk_at_most PathAt CleanAt node-rules (rank_of duties) arcs-rise walk-either d p.0 y p.1 in (
        shown d u.0,
        undominated-from s t base price duties are V opens extends le value_of order steps shown tells d k u.0 u.1,
        subst (λ z. is_at_most (shown d u.0) z ≡ true) p.2
            (sym (compared s t base price duties are V opens extends le value_of order steps shown tells d k u.0 u.1.walk p.0 y u.1.has p.1) ∙ u.2),
      )
