-- Entries that are local, given the fronts of the nodes before, are the node's front; and a front is local.
use Rattle.std.proofs.Common.{◌≡◌, ℕ, Bool, true, false, cond, List, inl, inr, Option, Some, None, ℤ, refl, ◌∙◌, ap}
use Rattle.crew_pairing.specs.Duties.{flights_of}
use Rattle.crew_pairing.specs.Pairings.{IsDuty, may_stand_after}
use Rattle.crew_pairing.specs.declared.duty.Duty.{Duty}
use Rattle.crew_pairing.specs.Legs.{Leg}
use Rattle.crew_flights.specs.Timetable.{IsSound, Timetable}
use Rattle.crew_resource.specs.Labels.{IsLocal}
use Rattle.crew_resource.specs.Members.{Member}
use Rattle.crew_resource.proofs.Local.{local_from_front}
use Rattle.crew_resource.proofs.Members.{Member-filter_in, Member-filter_out}
use Rattle.crew_resource.proofs.Scratch.{Right, covers_from_front, some_front}
use Rattle.crew_resource.proofs.Step.{Step, step_front}
use Rattle.crew_rules.specs.Settings.{IsChecked}
use Rattle.crew_rules.specs.declared.settings.Settings.{Settings}
use Rattle.crew_vector.specs.Dominance.{is_at_most}
use Rattle.crew_vector.specs.Fronts.{IsFrontAt}
use Rattle.crew_pairing.specs.Keys.{walk_at_most}
use Rattle.crew_vector.specs.Locals.{AreFrontsBefore, Candidate, Feed, IsLocalAt}
use Rattle.crew_pairing.specs.declared.vector.PairingVector.{PairingVector}
use Rattle.crew_vector.proofs.Growth.{start-in, start-out, step-in, step-out}
use Rattle.crew_vector.proofs.Nodes.{CleanAt, Known, More, One, Opening, PathAt, Preds, arcs-rise, node-rules, rank}
use Rattle.crew_vector.proofs.Orders.{code-itself, same-code, walk-either, walk-order}
use Rattle.crew_vector.proofs.Paths.{front-from, front-to, known-legal, legal-known, may_start}
use Rattle.crew_vector.proofs.Steps.{extends, opens}
use Rattle.crew_vector.proofs.Unique.{same-entries}

opened-out : {V : Type 0} (b : Bool) (o : Option V) (v : V) → cond b o None ≡ Some v → (b ≡ true) × (o ≡ Some v)
opened-out true o v e = (refl, e)
opened-out false o v e = absurd (let q : ⊥ = (cc) in q)

module _ (s : Settings) (t : Timetable) (base : List ℕ) (price : ℤ) (checked : IsChecked s) (sound : IsSound t) where
  abbrev Before : Duty → Duty → Type 0
  Before e d = Member (Preds s t base price checked sound d) e

  -- some front of each node
  some : (d : Duty) → (entries : List (PairingVector × List (List Leg))) × Right Duty PairingVector (List (List Leg)) (One s t base price checked sound) (More s t base price checked sound) (Opening s t base price checked sound) (extends s) (Preds s t base price checked sound) is_at_most walk_at_most (PathAt s t base price checked sound) (CleanAt s t base price checked sound) (node-rules s t base price checked sound) (rank s t base price checked sound) (arcs-rise s t base price checked sound) d entries
  some = some_front Duty PairingVector (List (List Leg)) (One s t base price checked sound) (More s t base price checked sound) (Opening s t base price checked sound) (extends s) (Preds s t base price checked sound) is_at_most walk_at_most (PathAt s t base price checked sound) (CleanAt s t base price checked sound) (node-rules s t base price checked sound) (rank s t base price checked sound) (arcs-rise s t base price checked sound) walk-either

  pub some-front : (d : Duty) → IsDuty s (flights_of t) d → (entries : List (PairingVector × List (List Leg))) × IsFrontAt s t base price d entries
  some-front d legal = ((some d).0, front-from s t base price checked sound d (legal-known s t base price checked sound d legal) (some d).0 (some d).1.0)

  abbrev fronts : Duty → List (PairingVector × List (List Leg))
  fronts e = (some e).0

  abbrev OneStep : Duty → PairingVector → List (List Leg) → Type 0
  OneStep = Step Duty PairingVector (List (List Leg)) (One s t base price checked sound) (More s t base price checked sound) (Opening s t base price checked sound) (extends s) Before (λ e u y. Member (fronts e) (u, y))

  module _ (d : Duty) (legal : IsDuty s (flights_of t) d) (feed : Feed) (fed : AreFrontsBefore s t base price d feed) where
    to-step : (v : PairingVector) (w : List (List Leg)) → Candidate s base price d feed v w → OneStep d v w
    to-step v w (inl c) = inl (c.3, ap (λ b. cond b (opens s price d) None) (code-itself d.from base c.0) ∙ start-in s price d v c.1 c.2)
    to-step v w (inr c) =
        let r = fed.right c.0 c.1 c.4 in
        let known_e = legal-known s t base price checked sound c.0 r.0 in
        let arc = Member-filter_in (λ e. may_stand_after s e d) (Known s t base price checked sound) c.0 known_e r.1 in
        let there = same-entries is_at_most walk_at_most (PathAt s t base price checked sound c.0) (CleanAt s t base price checked sound c.0) walk-order c.1 (fronts c.0) (front-to s t base price checked sound c.0 known_e c.1 r.2) (some c.0).1.0 c.2 c.3 c.5 in
        inr (c.0, c.2, c.3, arc, there, step-in s c.0 d c.2 v c.6 c.7, c.8)

    from-step : (v : PairingVector) (w : List (List Leg)) → OneStep d v w → Candidate s base price d feed v w
    from-step v w (inl p) =
        let k = opened-out (may_start s t base price checked sound d) (opens s price d) v p.1 in
        let o = start-out s price d v k.1 in
        inl (same-code d.from base k.0, o.0, o.1, p.0)
    from-step v w (inr q) =
        let a = Member-filter_out (λ e. may_stand_after s e d) (Known s t base price checked sound) q.0 q.3 in
        let m = fed.every q.0 (known-legal s t base price checked sound q.0 a.0) a.1 in
        let r = fed.right q.0 m.0 m.1 in
        let there = same-entries is_at_most walk_at_most (PathAt s t base price checked sound q.0) (CleanAt s t base price checked sound q.0) walk-order (fronts q.0) m.0 (some q.0).1.0 (front-to s t base price checked sound q.0 a.0 m.0 r.2) q.1 q.2 q.4 in
        let o = step-out s q.0 d q.1 v q.5 in
        inr (q.0, m.0, q.1, q.2, m.1, there, o.0, o.1, q.6)

    pub front-of-local : (entries : List (PairingVector × List (List Leg))) → IsLocalAt s base price d feed entries → IsFrontAt s t base price d entries
    front-of-local entries local =
        let steps : IsLocal is_at_most walk_at_most (OneStep d) entries = record {
          among = λ v w m. to-step v w (local.among v w m);
          covers = λ x y c. local.covers x y (from-step x y c);
          alone = local.alone;
        } in
        front-from s t base price checked sound d (legal-known s t base price checked sound d legal) entries
        (step_front Duty PairingVector (List (List Leg)) (One s t base price checked sound) (More s t base price checked sound) (Opening s t base price checked sound) (extends s) Before is_at_most walk_at_most (PathAt s t base price checked sound) (CleanAt s t base price checked sound) (node-rules s t base price checked sound)
        fronts d entries (λ e a. (some e).1.0) (λ e a. (some e).1.1) steps)

    pub local-of-front : (entries : List (PairingVector × List (List Leg))) → IsFrontAt s t base price d entries → IsLocalAt s base price d feed entries
    local-of-front entries front =
        let f = front-to s t base price checked sound d (legal-known s t base price checked sound d legal) entries front in
        let covers = covers_from_front Duty PairingVector (List (List Leg)) (One s t base price checked sound) (More s t base price checked sound) (Opening s t base price checked sound) (extends s) (Preds s t base price checked sound) is_at_most walk_at_most (PathAt s t base price checked sound) (CleanAt s t base price checked sound) (node-rules s t base price checked sound) (rank s t base price checked sound) (arcs-rise s t base price checked sound) walk-either d entries f in
        let steps = local_from_front Duty PairingVector (List (List Leg)) (One s t base price checked sound) (More s t base price checked sound) (Opening s t base price checked sound) (extends s) Before is_at_most walk_at_most (PathAt s t base price checked sound) (CleanAt s t base price checked sound) (node-rules s t base price checked sound)
        fronts d entries (λ e a. (some e).1.0) f covers in
        record {
          among = λ v w m. from-step v w (steps.among v w m);
          covers = λ x y c. steps.covers x y (to-step x y c);
          alone = steps.alone;
        }

-- nodes of two timetables with the same feed have the same front
pub same-feed : (s : Settings) (t u : Timetable) (base : List ℕ) (price : ℤ) (d : Duty) (feed : Feed) (entries : List (PairingVector × List (List Leg))) → IsChecked s → IsSound t → IsSound u
    → IsDuty s (flights_of t) d → IsDuty s (flights_of u) d → AreFrontsBefore s t base price d feed → AreFrontsBefore s u base price d feed → IsFrontAt s t base price d entries → IsFrontAt s u base price d entries
same-feed s t u base price d feed entries checked a b here there fed also front =
    front-of-local s u base price checked b d there feed also entries (local-of-front s t base price checked a d here feed fed entries front)
