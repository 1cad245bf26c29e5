-- The theory of fronts at the nodes of a timetable.
use Rattle.std.proofs.Common.{◌≡◌, ℕ, ◌+◌, ◌<◌, true, List, [], ◌∷◌, inl, inr, Option, ℤ, pos, negsuc, ◌+ℤ◌, subst, arith}
use Rattle.std.specs.Prelude.{◌≤ℤ◌, ◌<ℤ◌, unsigned_abs}
use Rattle.std.proofs.lemmas.Int.{ints}
use Rattle.crew_pairing.specs.Keys.{key_cmp, key_total, walk_at_most}
use Rattle.crew_pairing.specs.Pairings.{may_stand_after}
use Rattle.crew_pairing.specs.declared.duty.Duty.{Duty}
use Rattle.crew_pairing.specs.Legs.{Leg}
use Rattle.crew_flights.specs.Timetable.{IsSound, Timetable}
use Rattle.crew_resource.specs.Members.{Member}
use Rattle.crew_resource.proofs.Instance.{more, one, opening, preds, rules}
use Rattle.crew_resource.proofs.ListOrder.{lists_grow}
use Rattle.crew_resource.proofs.Members.{Member-filter_out}
use Rattle.crew_resource.proofs.Scratch.{clean_of_undominated, undominated_below}
use Rattle.crew_resource.proofs.Step.{Rules}
use Rattle.crew_rules.specs.Settings.{IsChecked}
use Rattle.crew_rules.specs.declared.settings.Settings.{Settings}
use Rattle.crew_vector.specs.Dominance.{is_at_most}
use Rattle.crew_vector.specs.Fronts.{At, Clean, IsUndominated}
use Rattle.crew_vector.specs.Values.{value_of}
use Rattle.crew_pairing.specs.declared.vector.PairingVector.{PairingVector}
use Rattle.crew_vector.proofs.Orders.{walk-either, walk-order}
use Rattle.crew_vector.proofs.Paths.{CleanPath, Path, at-legal, clean-from, follows, key_of, known, known-legal, legal-in-range, legal-known, may_start, to-path, undominated-from, undominated-to}
use Rattle.crew_vector.proofs.Steps.{extends, opens, same-length, steps, vector-order}

-- reports lie above the negative of a number
abbrev pub reach : List Duty → ℕ
reach [] = 0
reach (d ∷ ds) = unsigned_abs d.report + reach ds

size : (z : ℤ) → pos 0 ≤ℤ (z +ℤ pos (unsigned_abs z))
size (pos n) = omega (arith, ints)
size (negsuc n) = omega (arith, ints)

within-reach : (ds : List Duty) (d : Duty) → Member ds d → pos 0 ≤ℤ (d.report +ℤ pos (reach ds))
within-reach [] d m = absurd m
within-reach (x ∷ ds) d (inl e) =
    subst (λ (y : Duty). pos 0 ≤ℤ (y.report +ℤ pos (unsigned_abs x.report + reach ds))) e (omega (arith, ints, size x.report))
within-reach (x ∷ ds) d (inr m) = omega (arith, ints, within-reach ds d m)

rises-as-number : (a b : ℤ) → pos 0 ≤ℤ a → a <ℤ b → unsigned_abs a < unsigned_abs b
rises-as-number (pos a) (pos b) h k = omega (arith, ints)
rises-as-number (pos a) (negsuc b) h k = absurd (omega (arith, ints))
rises-as-number (negsuc a) b h k = absurd (omega (arith, ints))

module _ (s : Settings) (t : Timetable) (base : List ℕ) (price : ℤ) (checked : IsChecked s) (sound : IsSound t) where
  abbrev pub Known : List Duty
  Known = known s t base price checked sound

  abbrev pub PathAt : Duty → PairingVector → List (List Leg) → Type 0
  PathAt = Path s t base price checked sound

  abbrev pub CleanAt : Duty → PairingVector → List (List Leg) → Type 0
  CleanAt = CleanPath s t base price checked sound

  abbrev pub One : Duty → List (List Leg)
  One = one Duty PairingVector (List Leg) (key_of s t base price checked sound) Known (may_start s t base price checked sound) (may_stand_after s) (opens s price) (extends s) is_at_most (value_of s price) vector-order (steps s price) walk_at_most walk-order

  abbrev pub More : List (List Leg) → Duty → List (List Leg)
  More = more Duty PairingVector (List Leg) (key_of s t base price checked sound) Known (may_start s t base price checked sound) (may_stand_after s) (opens s price) (extends s) is_at_most (value_of s price) vector-order (steps s price) walk_at_most walk-order

  abbrev pub Opening : Duty → Option PairingVector
  Opening = opening Duty PairingVector (List Leg) (key_of s t base price checked sound) Known (may_start s t base price checked sound) (may_stand_after s) (opens s price) (extends s) is_at_most (value_of s price) vector-order (steps s price) walk_at_most walk-order

  abbrev pub Preds : Duty → List Duty
  Preds = preds Duty PairingVector (List Leg) (key_of s t base price checked sound) Known (may_start s t base price checked sound) (may_stand_after s) (opens s price) (extends s) is_at_most (value_of s price) vector-order (steps s price) walk_at_most walk-order

  pub node-rules : Rules Duty PairingVector (List (List Leg)) One More Opening (extends s) (λ e d. Member (Preds d) e) is_at_most walk_at_most PathAt CleanAt
  node-rules = rules Duty PairingVector (List Leg) (key_of s t base price checked sound) Known (may_start s t base price checked sound) (may_stand_after s) (opens s price) (extends s) is_at_most (value_of s price) vector-order (steps s price) walk_at_most walk-order
      (same-length s price) (lists_grow key_cmp key_total)

  -- arcs go forward in time
  pub rank : Duty → ℕ
  rank d = unsigned_abs (d.report +ℤ pos (reach Known))

  pub arcs-rise : (e d : Duty) → Member (Preds d) e → rank e < rank d
  unfolding rank
  arcs-rise e d m =
      let k = Member-filter_out (λ e. may_stand_after s e d) Known e m in
      let range = legal-in-range s t base price checked sound e (known-legal s t base price checked sound e k.0) in
      let rest = follows s e d checked k.1 in
      let elapsed = range.elapsed in
      let gap = rest.rest in
      rises-as-number (e.report +ℤ pos (reach Known)) (d.report +ℤ pos (reach Known)) (within-reach Known e k.0) (omega (arith, ints, elapsed, gap))

  -- each undominated vector has a clean partial
  pub each-clean : (d : Duty) (v : PairingVector) → IsUndominated s t base price d v → (w : List (List Leg)) × Clean s t base price d v w
  each-clean d v u =
      let k = legal-known s t base price checked sound d (at-legal s t base price checked sound d v u.walk u.has) in
      let c = clean_of_undominated Duty PairingVector (List (List Leg)) One More Opening (extends s) Preds is_at_most walk_at_most PathAt CleanAt node-rules rank arcs-rise walk-either d v (undominated-to s t base price checked sound d k v u) in
      (c.0, clean-from s t base price checked sound d k v c.0 c.1)

  -- under each partial lies an undominated vector
  pub each-below : (d : Duty) (x : PairingVector) (y : List (List Leg)) → At s t base price d x y → (v : PairingVector) × IsUndominated s t base price d v × (is_at_most v x ≡ true)
  each-below d x y a =
      let k = legal-known s t base price checked sound d (at-legal s t base price checked sound d x y a) in
      let u = undominated_below Duty PairingVector (List (List Leg)) One More Opening (extends s) Preds is_at_most walk_at_most PathAt CleanAt node-rules rank arcs-rise walk-either d x y (to-path s t base price checked sound d x y a) in
      (u.0, undominated-from s t base price checked sound d k u.0 u.1, u.2)
