-- Entries that are local, given the fronts of the nodes before, are the node's front; and a front is local.
use Rattle.std.proofs.Common.{◌≡◌, ℕ, Bool, true, false, cond, List, [], inl, inr, Option, Some, None, ℤ, refl, sym, ◌∙◌, ap, subst, ⊎_elim}
use Rattle.crew_flights.specs.Timetable.{IsSound, Timetable}
use Rattle.crew_rules.specs.Settings.{IsChecked}
use Rattle.crew_rules.specs.declared.settings.Settings.{Settings}
use Rattle.crew_resource.specs.Labels.{IsLocal}
use Rattle.crew_resource.specs.Members.{Member}
use Rattle.crew_resource.proofs.Local.{local_from_front}
use Rattle.crew_resource.proofs.Members.{Member-filter_in, Member-filter_out}
use Rattle.crew_resource.proofs.Step.{Step}
use Rattle.crew_pairing.specs.Duties.{flights_of}
use Rattle.crew_pairing.specs.Keys.{walk_at_most}
use Rattle.crew_pairing.specs.Legs.{Leg}
use Rattle.crew_pairing.specs.Pairings.{IsDuty, may_stand_after}
use Rattle.crew_pairing.specs.declared.duty.Duty.{Duty}
use Rattle.crew_vector.proofs.Orders.{code-itself, same-code, walk-order}
use Rattle.crew_history.specs.Histories.{follows}
use Rattle.crew_history.specs.Limits.{period_of}
use Rattle.crew_answers.specs.Dominance.{is_at_most}
use Rattle.crew_answers.specs.Fronts.{IsFrontAt}
use Rattle.crew_answers.specs.Locals.{AreFrontsBefore, Candidate, Feed, IsLocalAt, grown, is_within_limits}
use Rattle.crew_answers.specs.LongVectors.{LongVector, is_long}
use Rattle.crew_answers.proofs.Growth.{Value, start-in, start-out, step-in, step-out}
use Rattle.crew_answers.proofs.Grown.{past, timed}
use Rattle.crew_answers.proofs.PlainNodes.{CleanAt, More, One, Opening, PathAt, Preds, at_most, duties, extends, known-legal, node-known, node-rules, opens, path-listed, paths-compared, same-shown, shown, shown-front, some, value-order}
use Rattle.crew_answers.proofs.Told.{shown-in, shown-out, shown_entries}
use Rattle.crew_answers.proofs.Unique.{same-front}

opened-out : {V : Type 0} (b : Bool) (o : Option V) (v : V) → cond b o None ≡ Some v → (b ≡ true) × (o ≡ Some v)
opened-out true o v e = (refl, e)
opened-out false o v e = absurd (let q : ⊥ = (cc) in q)

-- a front goes by its entries alone
same-members-front : (s : Settings) (t : Timetable) (base : List ℕ) (price : ℤ) (d : Duty) (es fs : List (LongVector × List (List Leg)))
    → ((x : LongVector) (w : List (List Leg)) → Member es (x, w) → Member fs (x, w)) → ((x : LongVector) (w : List (List Leg)) → Member fs (x, w) → Member es (x, w))
    → IsFrontAt s t base price d es → IsFrontAt s t base price d fs
same-members-front s t base price d es fs to from f = record {
  clean = λ x w m. f.clean x w (from x w m);
  undominated = λ x w m. f.undominated x w (from x w m);
  least = λ x w y m c. f.least x w y (from x w m) c;
  every = λ x u. let e = f.every x u in (e.0, to x e.0 e.1);
}

same-members-local : (C : LongVector → List (List Leg) → Type 0) (es fs : List (LongVector × List (List Leg)))
    → ((x : LongVector) (w : List (List Leg)) → Member es (x, w) → Member fs (x, w)) → ((x : LongVector) (w : List (List Leg)) → Member fs (x, w) → Member es (x, w))
    → IsLocal is_at_most walk_at_most C es → IsLocal is_at_most walk_at_most C fs
same-members-local C es fs to from l = record {
  among = λ x w m. l.among x w (from x w m);
  covers = λ x y c. let k = l.covers x y c in (k.0, k.1, to k.0 k.1 k.2, k.3, k.4);
  alone = λ v w x y m n h. l.alone v w x y (from v w m) (from x y n) h;
}

module _ (s : Settings) (t : Timetable) (base : List ℕ) (price : ℤ) (range : IsChecked s) (sound : IsSound t) where
  abbrev fronts : Duty → List (Value × List (List Leg))
  fronts e = (some s t base price range sound e).0

  abbrev Before : Duty → Duty → Type 0
  Before e d = Member (Preds s t base price range sound d) e

  abbrev OneStep : Duty → Value → List (List Leg) → Type 0
  OneStep = Step Duty Value (List (List Leg)) (One s t base price range sound) (More s t base price range sound) (Opening s t base price range sound) (extends s price) Before (λ e u y. Member (fronts e) (u, y))

  abbrev Shown : Duty → Value → LongVector
  Shown = shown s t base price range sound

  shown-some : (e : Duty) → IsDuty s (flights_of t) e → IsFrontAt s t base price e (shown_entries (Shown e) (fronts e))
  shown-some e legal = shown-front s t base price range sound e legal (fronts e) (some s t base price range sound e).1.0

  entry-path : (e : Duty) (u : Value) (y : List (List Leg)) → Member (fronts e) (u, y) → PathAt s t base price range sound e u y
  entry-path e u y m = ((some s t base price range sound e).1.0.clean u y m).path

  step-path : (d : Duty) (v : Value) (w : List (List Leg)) → OneStep d v w → PathAt s t base price range sound d v w
  step-path d v w c = (node-rules s t base price range sound).at_in d v w
      (⊎_elim inl (λ k. inr (k.0, k.1, k.2, k.3, entry-path k.0 k.1 k.2 k.4, k.5, k.6)) c)

  -- what the value of a list before d knows of the past
  past-of : (e d : Duty) → IsDuty s (flights_of t) e → IsDuty s (flights_of t) d → may_stand_after s e d ≡ true → (u : Value) (y : List (List Leg)) → PathAt s t base price range sound e u y
      → (is_long s ≡ true → follows u.1.1.periods (period_of d) ≡ true) × (is_long s ≡ false → u.1.1.periods ≡ [])
  past-of e d legal_e legal_d after u y p =
      let l = path-listed s t base price range sound e (node-known s t base price range sound e legal_e) u y p in
      past s t base price sound l.first l.others d l.partial legal_d (subst (λ z. may_stand_after s z d ≡ true) (sym l.ends) after) u (ap (λ (z : LongVector). z.history) l.vector)

  module _ (d : Duty) (legal : IsDuty s (flights_of t) d) (feed : Feed) (fed : AreFrontsBefore s t base price d feed) where
    known : Member (duties s t base price range sound) d
    known = node-known s t base price range sound d legal

    to-step : (x : LongVector) (w : List (List Leg)) → Candidate s base price d feed x w → (v : Value) × OneStep d v w × (Shown d v ≡ x)
    to-step x w (inl c) =
        let z = start-in s price d (timed s t base price sound d legal) c.1 in
        (z.0, inl (c.3, ap (λ b. cond b (opens s price d) None) (code-itself d.from base c.0) ∙ z.1), z.2 ∙ sym c.2)
    to-step x w (inr c) =
        let r = fed.right c.0 c.1 c.4 in
        let known_e = node-known s t base price range sound c.0 r.0 in
        let arc = Member-filter_in (λ e. may_stand_after s e d) (duties s t base price range sound) c.0 known_e r.1 in
        let there = same-front s t base price c.0 c.1 (shown_entries (Shown c.0) (fronts c.0)) r.2 (shown-some c.0 r.0) c.2 c.3 c.5 in
        let u = shown-out (Shown c.0) (fronts c.0) c.2 c.3 there in
        let k = past-of c.0 d r.0 legal r.1 u.0 c.3 (entry-path c.0 u.0 c.3 u.1) in
        let z = step-in s u.0 c.0 d k.0 k.1 (subst (λ z. is_within_limits s d (grown s c.0 d z) ≡ true) (sym u.2) c.6) in
        (z.0, inr (c.0, u.0, c.3, arc, u.1, z.1, c.8), subst (λ y. Shown d z.0 ≡ y) (sym c.7) (subst (λ y. Shown d z.0 ≡ grown s c.0 d y) u.2 z.2))

    from-step : (v : Value) (w : List (List Leg)) → OneStep d v w → Candidate s base price d feed (Shown d v) w
    from-step v w (inl p) =
        let k = opened-out _ (opens s price d) v p.1 in
        let o = start-out s price v d k.1 in
        inl (same-code d.from base k.0, o.0, o.1, p.0)
    from-step v w (inr q) =
        let a = Member-filter_out (λ e. may_stand_after s e d) (duties s t base price range sound) q.0 q.3 in
        let legal_e = known-legal s t base price range sound q.0 a.0 in
        let m = fed.every q.0 legal_e a.1 in
        let r = fed.right q.0 m.0 m.1 in
        let there = same-front s t base price q.0 (shown_entries (Shown q.0) (fronts q.0)) m.0 (shown-some q.0 legal_e) r.2 (Shown q.0 q.1) q.2 (shown-in (Shown q.0) (fronts q.0) q.1 q.2 q.4) in
        let k = past-of q.0 d legal_e legal a.1 q.1 q.2 (entry-path q.0 q.1 q.2 q.4) in
        let o = step-out s q.1 v q.0 d k.1 q.5 in
        inr (q.0, m.0, Shown q.0 q.1, q.2, m.1, there, o.0, o.1, q.6)

    compared : (u : Value) (y : List (List Leg)) (v : Value) (w : List (List Leg)) → OneStep d u y → OneStep d v w → at_most u v ≡ is_at_most (Shown d u) (Shown d v)
    compared u y v w p q = paths-compared s t base price range sound d known u y v w (step-path d u y p) (step-path d v w q)

    -- what is local among values shows what is local
    shown-local : (es : List (Value × List (List Leg))) → IsLocal at_most walk_at_most (OneStep d) es → IsLocalAt s base price d feed (shown_entries (Shown d) es)
    shown-local es l = record {
      among = λ x w m.
          let v = shown-out (Shown d) es x w m in
          subst (λ z. Candidate s base price d feed z w) v.2 (from-step v.0 w (l.among v.0 w v.1));
      covers = λ x y c.
          let v = to-step x y c in
          let k = l.covers v.0 y v.1 in (
            Shown d k.0,
            k.1,
            shown-in (Shown d) es k.0 k.1 k.2,
            subst (λ z. is_at_most (Shown d k.0) z ≡ true) v.2 (sym (compared k.0 k.1 v.0 y (l.among k.0 k.1 k.2) v.1) ∙ k.3),
            λ e. k.4 (same-shown s t base price range sound d known k.0 k.1 v.0 y (step-path d k.0 k.1 (l.among k.0 k.1 k.2)) (step-path d v.0 y v.1) (e ∙ sym v.2)),
          );
      alone = λ v w x y m n h.
          let a = shown-out (Shown d) es v w m in
          let b = shown-out (Shown d) es x y n in
          let le : at_most a.0 b.0 ≡ true = compared a.0 w b.0 y (l.among a.0 w a.1) (l.among b.0 y b.1)
          ∙ (ap (λ z. is_at_most z (Shown d b.0)) a.2 ∙ (ap (is_at_most v) b.2 ∙ h)) in
          let same = l.alone a.0 w b.0 y a.1 b.1 le in
          (sym a.2 ∙ (ap (Shown d) same.0 ∙ b.2), same.1);
    }

    -- two local lists have the same entries
    same-locals : (es fs : List (LongVector × List (List Leg))) → IsLocalAt s base price d feed es → IsLocalAt s base price d feed fs
        → (x : LongVector) (w : List (List Leg)) → Member es (x, w) → Member fs (x, w)
    same-locals es fs l k x w m =
        let over = k.covers x w (l.among x w m) in
        let under = l.covers over.0 over.1 (k.among over.0 over.1 over.2) in
        let a = to-step x w (l.among x w m) in
        let b = to-step over.0 over.1 (k.among over.0 over.1 over.2) in
        let c = to-step under.0 under.1 (l.among under.0 under.1 under.2) in
        let lesser : at_most b.0 a.0 ≡ true = compared b.0 over.1 a.0 w b.1 a.1 ∙ (ap (λ z. is_at_most z (Shown d a.0)) b.2 ∙ (ap (is_at_most over.0) a.2 ∙ over.3)) in
        let least : at_most c.0 b.0 ≡ true = compared c.0 under.1 b.0 over.1 c.1 b.1 ∙ (ap (λ z. is_at_most z (Shown d b.0)) c.2 ∙ (ap (is_at_most under.0) b.2 ∙ under.3)) in
        let through : is_at_most under.0 x ≡ true = sym (compared c.0 under.1 a.0 w c.1 a.1 ∙ (ap (λ z. is_at_most z (Shown d a.0)) c.2 ∙ ap (is_at_most under.0) a.2)) ∙ value-order.transitive c.0 b.0 a.0 least lesser in
        let one = l.alone under.0 under.1 x w under.2 m through in
        let again : c.0 ≡ a.0 = same-shown s t base price range sound d known c.0 under.1 a.0 w (step-path d c.0 under.1 c.1) (step-path d a.0 w a.1) (c.2 ∙ (one.0 ∙ sym a.2)) in
        let same_value : b.0 ≡ a.0 = value-order.antisymmetric b.0 a.0 lesser (subst (λ z. at_most z b.0 ≡ true) again least) in
        let vector : over.0 ≡ x = sym b.2 ∙ (ap (Shown d) same_value ∙ a.2) in
        let walk : over.1 ≡ w = walk-order.antisymmetric over.1 w (over.4 vector) (subst (λ z. walk_at_most z over.1 ≡ true) one.1 (under.4 (one.0 ∙ sym vector))) in
        subst (λ z. Member fs (x, z)) walk (subst (λ z. Member fs (z, over.1)) vector over.2)

    -- the values' own front is local
    own-local : IsLocalAt s base price d feed (shown_entries (Shown d) (fronts d))
    own-local =
        let f = (some s t base price range sound d).1.0 in
        shown-local (fronts d)
        (local_from_front Duty Value (List (List Leg)) (One s t base price range sound) (More s t base price range sound) (Opening s t base price range sound) (extends s price) Before at_most walk_at_most (PathAt s t base price range sound) (CleanAt s t base price range sound) (node-rules s t base price range sound)
        fronts d (fronts d) (λ e a. (some s t base price range sound e).1.0) f (some s t base price range sound d).1.1)

    pub front-of-local : (entries : List (LongVector × List (List Leg))) → IsLocalAt s base price d feed entries → IsFrontAt s t base price d entries
    front-of-local entries local =
        same-members-front s t base price d (shown_entries (Shown d) (fronts d)) entries
        (same-locals (shown_entries (Shown d) (fronts d)) entries own-local local) (same-locals entries (shown_entries (Shown d) (fronts d)) local own-local) (shown-some d legal)

    pub local-of-front : (entries : List (LongVector × List (List Leg))) → IsFrontAt s t base price d entries → IsLocalAt s base price d feed entries
    local-of-front entries front =
        same-members-local (Candidate s base price d feed) (shown_entries (Shown d) (fronts d)) entries
        (same-front s t base price d (shown_entries (Shown d) (fronts d)) entries (shown-some d legal) front) (same-front s t base price d entries (shown_entries (Shown d) (fronts d)) front (shown-some d legal)) own-local
