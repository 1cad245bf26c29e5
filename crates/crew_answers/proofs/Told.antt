-- Values that tell which lists are partials, and their vectors; and how partials and clean ones are then the lists of label setting.
use Rattle.std.proofs.Common.{◌≡◌, ℕ, Bool, List, [], ◌∷◌, ◌++◌, map, ◌⊎◌, inl, inr, Option, Some, None, ℤ, refl, sym, ◌∙◌, ap, subst, ⊎_elim}
use Rattle.std.specs.Ordering.{eq_by_cmp}
use Rattle.crew_flights.specs.Codes.{code_cmp}
use Rattle.crew_flights.specs.Timetable.{Timetable}
use Rattle.crew_rules.specs.declared.settings.Settings.{Settings}
use Rattle.crew_resource.specs.Labels.{IsFront, Undominated}
use Rattle.crew_resource.specs.Machinery.Paths.{Begins, CleanPathTo, Linked, LinkedFrom, PathTo}
use Rattle.crew_resource.specs.Members.{Each, Member}
use Rattle.crew_resource.specs.Resource.{StepLaws}
use Rattle.crew_resource.proofs.Members.{Member-append, Member-append_left}
use Rattle.crew_resource.proofs.Order.{IsOrder}
use Rattle.crew_pairing.specs.Duties.{AreDuties, flights_of}
use Rattle.crew_pairing.specs.Keys.{walk_at_most}
use Rattle.crew_pairing.specs.Legs.{Leg}
use Rattle.crew_pairing.specs.Pairings.{AllRested, IsDuty, last_duty, may_stand_after}
use Rattle.crew_pairing.specs.declared.duty.Duty.{Duty}
use Rattle.crew_vector.specs.Fronts.{walk_of}
use Rattle.crew_vector.proofs.Cuts.{before_last, by-first, cut, each-of, last-split, whole-split}
use Rattle.crew_vector.proofs.Extended.{none-goes-on}
use Rattle.crew_vector.proofs.Orders.{code-itself, same-code}
use Rattle.crew_history.specs.LongPairings.{IsLongPartial}
use Rattle.crew_answers.specs.Dominance.{is_at_most}
use Rattle.crew_answers.specs.Fronts.{At, Clean, IsFrontAt, IsUndominated}
use Rattle.crew_answers.specs.LongVectors.{LongVector, long_vector_of}

-- a partial has a value, and where a list of legal duties of the base has one it is a partial; the value shows its vector, and two values at one last duty compare as their vectors do
pub record Tells (s : Settings) (t : Timetable) (base : List ℕ) (price : ℤ) (V : Type 0) (le : V → V → Bool)
    (value_of : List Duty → Option V) (shown : Duty → V → LongVector) : Type 0 where
  pub value : (first : Duty) (others : List Duty) → IsLongPartial s (flights_of t) base first others
      → (v : V) × (value_of (first ∷ others) ≡ Some v)
  pub partial : (first : Duty) (others : List Duty) (v : V) → Each (IsDuty s (flights_of t)) (first ∷ others) → first.from ≡ base → AllRested s first others
      → value_of (first ∷ others) ≡ Some v
      → IsLongPartial s (flights_of t) base first others × (shown (last_duty first others) v ≡ long_vector_of s price first others)
  pub at_most : (first : Duty) (others : List Duty) (other_first : Duty) (other_others : List Duty) (u v : V)
      → IsLongPartial s (flights_of t) base first others → IsLongPartial s (flights_of t) base other_first other_others
      → value_of (first ∷ others) ≡ Some u → value_of (other_first ∷ other_others) ≡ Some v
      → last_duty first others ≡ last_duty other_first other_others
      → le u v ≡ is_at_most (shown (last_duty first others) u) (shown (last_duty first others) v)

-- entries with their values shown as vectors
abbrev pub shown_entries : {V : Type 0} → (V → LongVector) → List (V × List (List Leg)) → List (LongVector × List (List Leg))
shown_entries shows entries = map (λ e. (shows e.0, e.1)) entries

pub shown-in : {V : Type 0} (shows : V → LongVector) (es : List (V × List (List Leg))) (v : V) (w : List (List Leg)) → Member es (v, w) → Member (shown_entries shows es) (shows v, w)
shown-in shows [] v w m = absurd m
shown-in {V} shows (e ∷ es) v w (inl q) = inl (ap (λ (z : V × List (List Leg)). (shows z.0, z.1)) q)
shown-in shows (e ∷ es) v w (inr m) = inr (shown-in shows es v w m)

pub shown-out : {V : Type 0} (shows : V → LongVector) (es : List (V × List (List Leg))) (x : LongVector) (w : List (List Leg)) → Member (shown_entries shows es) (x, w)
    → (v : V) × Member es (v, w) × (shows v ≡ x)
shown-out shows [] x w m = absurd m
shown-out shows (e ∷ es) x w (inl q) = (e.0, inl (ap (λ z. (e.0, z)) (ap (λ (z : LongVector × List (List Leg)). z.1) q)), ap (λ (z : LongVector × List (List Leg)). z.0) q)
shown-out shows (e ∷ es) x w (inr m) = let k = shown-out shows es x w m in (k.0, inr k.1, k.2)

pub to-linked : (s : Settings) (first : Duty) (others : List Duty) → AllRested s first others → LinkedFrom (may_stand_after s) first others
to-linked s first [] h = tt
to-linked s first (next ∷ others) h = (h.0, to-linked s next others h.1)

pub from-linked : (s : Settings) (first : Duty) (others : List Duty) → LinkedFrom (may_stand_after s) first others → AllRested s first others
from-linked s first [] h = tt
from-linked s first (next ∷ others) h = (h.0, from-linked s next others h.1)

some-or-none : {V : Type 0} (o : Option V) → ((v : V) × (o ≡ Some v)) ⊎ (o ≡ None)
some-or-none None = inr refl
some-or-none (Some v) = inl (v, refl)

pub each-beginning : {X : Type 0} (P : X → Type 0) (taken left : List X) → Each P (taken ++ left) → Each P taken
each-beginning P [] left h = tt
each-beginning P (x ∷ taken) left h = (h.0, each-beginning P taken left h.1)

pub rested-beginning : (s : Settings) (first : Duty) (taken left : List Duty) → AllRested s first (taken ++ left) → AllRested s first taken
rested-beginning s first [] left h = tt
rested-beginning s first (next ∷ taken) left h = (h.0, rested-beginning s next taken left h.1)

in-middle : (bs : List Duty) (e : Duty) (rest : List Duty) → Member (bs ++ e ∷ rest) e
in-middle [] e rest = inl refl
in-middle (b ∷ bs) e rest = inr (in-middle bs e rest)

module _ (s : Settings) (t : Timetable) (base : List ℕ) (price : ℤ) (duties : List Duty) (are : AreDuties s t duties)
    (V : Type 0) (opens : Duty → Option V) (extends : V → Duty → Duty → Option V) (le : V → V → Bool) (value_of : List Duty → Option V)
    (order : IsOrder le) (steps : StepLaws opens extends le value_of) (shown : Duty → V → LongVector)
    (tells : Tells s t base price V le value_of shown) where
  abbrev pub key_of : Duty → List Leg
  key_of d = d.key

  abbrev pub may_start : Duty → Bool
  may_start d = eq_by_cmp code_cmp d.from base

  abbrev pub Path : Duty → V → List (List Leg) → Type 0
  Path = PathTo key_of duties may_start (may_stand_after s) value_of

  abbrev pub CleanPath : Duty → V → List (List Leg) → Type 0
  CleanPath = CleanPathTo le key_of duties may_start (may_stand_after s) value_of

  abbrev Partial : Duty → List Duty → Type 0
  Partial first others = IsLongPartial s (flights_of t) base first others

  pub legal-known : (d : Duty) → IsDuty s (flights_of t) d → Member duties d
  legal-known d l = subst (Member duties) (sym l.3) (are.every l.0 l.1 l.2)

  pub known-legal : (d : Duty) → Member duties d → IsDuty s (flights_of t) d
  known-legal d m = are.sound d m

  each-known : (ds : List Duty) → Each (IsDuty s (flights_of t)) ds → (d : Duty) → Member ds d → Member duties d
  each-known [] h d m = absurd m
  each-known (x ∷ ds) h d (inl e) = subst (Member duties) e (legal-known x h.0)
  each-known (x ∷ ds) h d (inr m) = each-known ds h.1 d m

  path-of : (d : Duty) (x : LongVector) (w : List (List Leg)) (a : At s t base price d x w) (v : V) → value_of (a.first ∷ a.others) ≡ Some v → Path d v w
  path-of d x w a v value =
      let whole : before_last a.first a.others ++ d ∷ [] ≡ a.first ∷ a.others = ap (λ z. before_last a.first a.others ++ z ∷ []) (sym a.ends) ∙ whole-split a.first a.others in
      record {
        before = before_last a.first a.others;
        walk = a.walk ∙ ap walk_of (sym whole);
        begins = subst (Begins may_start) (sym whole) (code-itself a.first.from base a.partial.leaves);
        linked = subst (Linked (may_stand_after s)) (sym whole) (to-linked s a.first a.others a.partial.rested);
        are_known = λ y m. each-known (a.first ∷ a.others) a.partial.legal y (subst (λ z. Member z y) whole (Member-append_left (before_last a.first a.others) (d ∷ []) y m));
        value = ap value_of whole ∙ value;
      }

  -- a partial's vector is shown by a value
  pub to-path : (d : Duty) (x : LongVector) (w : List (List Leg)) → At s t base price d x w → (v : V) × Path d v w × (shown d v ≡ x)
  to-path d x w a =
      let k = tells.value a.first a.others a.partial in
      let told = tells.partial a.first a.others k.0 a.partial.legal a.partial.leaves a.partial.rested k.1 in
      (k.0, path-of d x w a k.0 k.1, subst (λ z. shown z k.0 ≡ x) a.ends (told.1 ∙ sym a.vector))

  path-known : (d : Duty) → Member duties d → (v : V) (w : List (List Leg)) (p : Path d v w) → (x : Duty) → Member (p.before ++ d ∷ []) x → Member duties x
  path-known d k v w p x m = ⊎_elim (p.are_known x) (⊎_elim (λ e. subst (Member duties) e k) (λ b. absurd b)) (Member-append p.before (d ∷ []) x m)

  -- a path's list, by its first
  pub record Listed (d : Duty) (v : V) (w : List (List Leg)) (before : List Duty) : Type 0 where
    pub first : Duty
    pub others : List Duty
    pub whole : before ++ d ∷ [] ≡ first ∷ others
    pub ends : last_duty first others ≡ d
    pub value : value_of (first ∷ others) ≡ Some v
    pub partial : Partial first others
    pub vector : shown d v ≡ long_vector_of s price first others
    pub walk : w ≡ walk_of (first ∷ others)

  pub listed : (d : Duty) → Member duties d → (v : V) (w : List (List Leg)) (p : Path d v w) → Listed d v w p.before
  listed d k v w p =
      let f = by-first p.before d in
      let value = ap value_of (sym f.whole) ∙ p.value in
      let told = tells.partial f.first f.others v
      (each-of (IsDuty s (flights_of t)) (f.first ∷ f.others) (λ x m. known-legal x (path-known d k v w p x (subst (λ z. Member z x) (sym f.whole) m))))
      (same-code f.first.from base (subst (Begins may_start) f.whole p.begins))
      (from-linked s f.first f.others (subst (Linked (may_stand_after s)) f.whole p.linked)) value in
      record {
        first = f.first;
        others = f.others;
        whole = f.whole;
        ends = f.ends;
        value = value;
        partial = told.0;
        vector = subst (λ z. shown z v ≡ long_vector_of s price f.first f.others) f.ends told.1;
        walk = p.walk ∙ ap walk_of f.whole;
      }

  pub from-path : (d : Duty) → Member duties d → (v : V) (w : List (List Leg)) → Path d v w → At s t base price d (shown d v) w
  from-path d k v w p =
      let l = listed d k v w p in
      record { first = l.first; others = l.others; partial = l.partial; ends = l.ends; vector = l.vector; walk = l.walk }

  -- values at one duty compare as their vectors do
  pub compared : (d : Duty) → Member duties d → (u : V) (y : List (List Leg)) (v : V) (w : List (List Leg)) → Path d u y → Path d v w → le u v ≡ is_at_most (shown d u) (shown d v)
  compared d k u y v w p q =
      let l = listed d k u y p in
      let m = listed d k v w q in
      subst (λ z. le u v ≡ is_at_most (shown z u) (shown z v)) l.ends
      (tells.at_most l.first l.others m.first m.others u v l.partial m.partial l.value m.value (l.ends ∙ sym m.ends))

  pub same-shown : (d : Duty) → Member duties d → (u : V) (y : List (List Leg)) (v : V) (w : List (List Leg)) → Path d u y → Path d v w → shown d u ≡ shown d v → u ≡ v
  same-shown d k u y v w p q e =
      order.antisymmetric u v
      (compared d k u y v w p q ∙ (ap (is_at_most (shown d u)) (sym e) ∙ (sym (compared d k u y u y p p) ∙ order.reflexive u)))
      (compared d k v w u y q p ∙ (ap (is_at_most (shown d v)) e ∙ (sym (compared d k v w v w q q) ∙ order.reflexive v)))

  pub undominated-from : (d : Duty) → Member duties d → (v : V) → Undominated le (Path d) v → IsUndominated s t base price d (shown d v)
  undominated-from d k v u = record {
    walk = u.walk;
    has = from-path d k v u.walk u.has;
    unbeaten = λ x y a b.
        let p = to-path d x y a in
        u.unbeaten p.0 y p.1 (
          compared d k p.0 y v u.walk p.1 u.has ∙ (ap (λ z. is_at_most z (shown d v)) p.2 ∙ b.0),
          λ e. b.1 (sym p.2 ∙ ap (shown d) e),
        );
  }

  pub undominated-to : (d : Duty) → Member duties d → (v : V) (w : List (List Leg)) → Path d v w → IsUndominated s t base price d (shown d v) → Undominated le (Path d) v
  undominated-to d k v w p u = record {
    walk = w;
    has = p;
    unbeaten = λ x y q b.
        u.unbeaten (shown d x) y (from-path d k x y q) (
          sym (compared d k x y v w q p) ∙ b.0,
          λ e. b.1 (same-shown d k x y v w q p e),
        );
  }

  -- a beginning of a list with a value has one
  beginning-value : (bs : List Duty) (e : Duty) (rest : List Duty) (v : V) → value_of (bs ++ e ∷ rest) ≡ Some v → (u : V) × (value_of (bs ++ e ∷ []) ≡ Some u)
  beginning-value bs e rest v h =
      ⊎_elim (λ k. k)
      (λ n.
      let past = none-goes-on V Duty opens extends le value_of steps bs e rest n in
      absurd (let z : ⊥ = (cc) in z))
      (some-or-none (value_of (bs ++ e ∷ [])))

  -- what a beginning of a partial shows
  beginning-shown : (first : Duty) (others taken left : List Duty) → Partial first others → taken ++ left ≡ others → (u : V) → value_of (first ∷ taken) ≡ Some u
      → Partial first taken × (shown (last_duty first taken) u ≡ long_vector_of s price first taken)
  beginning-shown first others taken left p q u value =
      tells.partial first taken u
      (each-beginning (IsDuty s (flights_of t)) (first ∷ taken) left (subst (λ z. Each (IsDuty s (flights_of t)) (first ∷ z)) (sym q) p.legal))
      p.leaves (rested-beginning s first taken left (subst (AllRested s first) (sym q) p.rested)) value

  pub clean-from : (d : Duty) → Member duties d → (v : V) (w : List (List Leg)) → CleanPath d v w → Clean s t base price d (shown d v) w
  unfolding from-path
  clean-from d k v w c =
      let l = listed d k v w c.path in
      record {
        at = from-path d k v w c.path;
        stays = λ taken left q.
            let bs = before_last l.first taken in
            let e = last_duty l.first taken in
            let whole : bs ++ e ∷ left ≡ c.path.before ++ d ∷ [] = last-split l.first taken left ∙ (ap (λ z. l.first ∷ z) q ∙ sym l.whole) in
            let value = beginning-value bs e left v (ap value_of whole ∙ c.path.value) in
            let known_e = path-known d k v w c.path e (subst (λ z. Member z e) whole (in-middle bs e left)) in
            let told = beginning-shown l.first l.others taken left l.partial q value.0 (ap value_of (sym (whole-split l.first taken)) ∙ value.1) in
            subst (IsUndominated s t base price e) told.1
            (undominated-from e known_e value.0 (c.clean bs e left value.0 whole value.1));
      }

  pub last-of-each : (first : Duty) (others : List Duty) → Each (IsDuty s (flights_of t)) (first ∷ others) → IsDuty s (flights_of t) (last_duty first others)
  last-of-each first [] h = h.0
  last-of-each first (next ∷ others) h = last-of-each next others h.1

  pub at-legal : (d : Duty) (x : LongVector) (w : List (List Leg)) → At s t base price d x w → IsDuty s (flights_of t) d
  at-legal d x w a = subst (IsDuty s (flights_of t)) a.ends (last-of-each a.first a.others a.partial.legal)

  pub clean-to : (d : Duty) (x : LongVector) (w : List (List Leg)) → Clean s t base price d x w → (v : V) × CleanPath d v w × (shown d v ≡ x)
  unfolding path-of
  clean-to d x w c =
      let first = c.at.first in
      let others = c.at.others in
      let k = tells.value first others c.at.partial in
      let told = tells.partial first others k.0 c.at.partial.legal c.at.partial.leaves c.at.partial.rested k.1 in
      let split : before_last first others ++ d ∷ [] ≡ first ∷ others = ap (λ z. before_last first others ++ z ∷ []) (sym c.at.ends) ∙ whole-split first others in (
        k.0,
        record {
          path = path-of d x w c.at k.0 k.1;
          clean = λ bs e rest u q val.
              let b = cut bs e rest first others (q ∙ split) in
              let value = ap value_of (sym b.beginning) ∙ val in
              let shows = beginning-shown first others b.taken rest c.at.partial b.left u value in
              let vector = subst (λ z. shown z u ≡ long_vector_of s price first b.taken) b.ends shows.1 in
              let here : At s t base price e (shown e u) (walk_of (first ∷ b.taken)) =
              record { first = first; others = b.taken; partial = shows.0; ends = b.ends; vector = vector; walk = refl } in
              let there : IsUndominated s t base price e (shown e u) =
              subst (IsUndominated s t base price e) (sym vector)
              (subst (λ z. IsUndominated s t base price z (long_vector_of s price first b.taken)) b.ends (c.stays b.taken rest b.left)) in
              undominated-to e (legal-known e (at-legal e (shown e u) (walk_of (first ∷ b.taken)) here)) u (walk_of (first ∷ b.taken))
              (path-of e (shown e u) (walk_of (first ∷ b.taken)) here u value) there;
        },
        subst (λ z. shown z k.0 ≡ x) c.at.ends (told.1 ∙ sym c.at.vector),
      )

  -- a front of values shows the front
  pub front-from : (d : Duty) → Member duties d → (entries : List (V × List (List Leg))) → IsFront le walk_at_most (Path d) (CleanPath d) entries
      → IsFrontAt s t base price d (shown_entries (shown d) entries)
  front-from d k entries f = record {
    clean = λ x w m.
        let e = shown-out (shown d) entries x w m in
        subst (λ z. Clean s t base price d z w) e.2 (clean-from d k e.0 w (f.clean e.0 w e.1));
    undominated = λ x w m.
        let e = shown-out (shown d) entries x w m in
        subst (IsUndominated s t base price d) e.2 (undominated-from d k e.0 (f.undominated e.0 w e.1));
    least = λ x w y m c.
        let e = shown-out (shown d) entries x w m in
        let p = clean-to d x y c in
        let same = same-shown d k p.0 y e.0 w p.1.path (f.clean e.0 w e.1).path (p.2 ∙ sym e.2) in
        f.least e.0 w y e.1 (subst (λ z. CleanPath d z y) same p.1);
    every = λ x u.
        let p = to-path d x u.walk u.has in
        let e = f.every p.0 (undominated-to d k p.0 u.walk p.1 (subst (IsUndominated s t base price d) (sym p.2) u)) in
        (e.0, subst (λ z. Member (shown_entries (shown d) entries) (z, e.0)) p.2 (shown-in (shown d) entries p.0 e.0 e.1));
  }
