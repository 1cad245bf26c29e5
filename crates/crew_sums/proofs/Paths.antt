-- A legal list has an anchored value exactly where it has a vector, which the value shows: so a front of values shows the front.
use Rattle.std.proofs.Common.{◌≡◌, ℕ, Bool, List, [], ◌∷◌, ◌++◌, inl, inr, Option, Some, None, ℤ, refl, sym, ◌∙◌, ap, subst, ⊎_elim}
use Rattle.std.specs.Option.{option_map}
use Rattle.std.specs.Ordering.{eq_by_cmp}
use Rattle.crew_anchor.specs.Anchors.{anchored, shown}
use Rattle.crew_anchor.specs.Machinery.Values.{anchored_value}
use Rattle.crew_anchor.specs.Stages.{anchored_resource}
use Rattle.crew_anchor.specs.Sweeps.{shown_labels}
use Rattle.crew_anchor.proofs.Labels.{Member-shown, shown-Member}
use Rattle.crew_anchor.proofs.Shifting.{anchored-order, anchored-shown, shown-anchored}
use Rattle.crew_flights.specs.Codes.{code_cmp}
use Rattle.crew_flights.specs.Timetable.{IsSound, Timetable}
use Rattle.crew_net.specs.Machinery.Moments.{IsReal}
use Rattle.crew_pairing.specs.Duties.{AreDuties}
use Rattle.crew_pairing.specs.Keys.{walk_at_most}
use Rattle.crew_pairing.specs.Legs.{Leg}
use Rattle.crew_pairing.specs.Pairings.{may_stand_after}
use Rattle.crew_pairing.specs.declared.duty.Duty.{Duty}
use Rattle.crew_pairing.specs.declared.vector.PairingVector.{PairingVector}
use Rattle.crew_resource.specs.Labels.{IsFront, Undominated}
use Rattle.crew_resource.specs.Machinery.Paths.{CleanPathTo, PathTo}
use Rattle.crew_resource.specs.Members.{Member}
use Rattle.crew_resource.proofs.Members.{Member-append, Member-append_left}
use Rattle.crew_rules.specs.Settings.{IsChecked}
use Rattle.crew_rules.specs.declared.settings.Settings.{Settings}
use Rattle.crew_vector.specs.Dominance.{is_at_most}
use Rattle.crew_vector.specs.Fronts.{IsFrontAt}
use Rattle.crew_vector.specs.Values.{value_of}
use Rattle.crew_vector.proofs.Paths as Plain
use Rattle.crew_sums.proofs.Values.{value-at}

-- what has an anchored value has the vector that it shows
unmapped : (rate : ℕ) (minute : ℤ) (o : Option PairingVector) (v : PairingVector) → option_map (anchored rate minute) o ≡ Some v → o ≡ Some (shown rate minute v)
unmapped rate minute None v e = absurd (let q : ⊥ = (cc) in q)
unmapped rate minute (Some u) v e = let q : anchored rate minute u ≡ v = (cc) in ap Some (sym (shown-anchored rate minute u) ∙ ap (shown rate minute) q)

last-in : (before : List Duty) (e : Duty) (rest : List Duty) → Member (before ++ e ∷ rest) e
last-in [] e rest = inl refl
last-in (b ∷ before) e rest = inr (last-in before e rest)

module _ (s : Settings) (t : Timetable) (base : List ℕ) (price : ℤ) (duties : List Duty) (checked : IsChecked s) (sound : IsSound t) (are : AreDuties s t duties) (real : (d : Duty) → Member duties d → IsReal d.report) where
  abbrev key_of : Duty → List Leg
  key_of d = d.key

  abbrev may_start : Duty → Bool
  may_start d = eq_by_cmp code_cmp d.from base

  abbrev kept_of : List Duty → Option PairingVector
  kept_of = anchored_value (anchored_resource s price)

  -- lists with their anchored values, and with their vectors
  abbrev pub Kept : Duty → PairingVector → List (List Leg) → Type 0
  Kept = PathTo key_of duties may_start (may_stand_after s) kept_of

  abbrev pub KeptClean : Duty → PairingVector → List (List Leg) → Type 0
  KeptClean = CleanPathTo is_at_most key_of duties may_start (may_stand_after s) kept_of

  abbrev Shown : Duty → PairingVector → List (List Leg) → Type 0
  Shown = Plain.Path s t base price checked sound

  abbrev ShownClean : Duty → PairingVector → List (List Leg) → Type 0
  ShownClean = Plain.CleanPath s t base price checked sound

  abbrev shows : Duty → PairingVector → PairingVector
  shows d v = shown s.trip_rig d.release v

  abbrev keeps : Duty → PairingVector → PairingVector
  keeps d v = anchored s.trip_rig d.release v

  to-known : (d : Duty) → Member duties d → Member (Plain.known s t base price checked sound) d
  to-known d m = Plain.legal-known s t base price checked sound d (are.sound d m)

  from-known : (d : Duty) → Member (Plain.known s t base price checked sound) d → Member duties d
  from-known d m =
      let legal = Plain.known-legal s t base price checked sound d m in
      subst (Member duties) (sym legal.3) (are.every legal.0 legal.1 legal.2)

  all-known : (before : List Duty) (d : Duty) → ((x : Duty) → Member before x → Member duties x) → Member duties d → (x : Duty) → Member (before ++ d ∷ []) x → Member duties x
  all-known before d known k x m = ⊎_elim {C = Member duties x} (known x) (⊎_elim (λ e. subst (Member duties) e k) (λ b. absurd b)) (Member-append before (d ∷ []) x m)

  -- the value of a list that ends with d
  shown-at : (before : List Duty) (d : Duty) → ((x : Duty) → Member (before ++ d ∷ []) x → Member duties x) → kept_of (before ++ d ∷ []) ≡ option_map (keeps d) (value_of s price (before ++ d ∷ []))
  shown-at before d known = value-at s price before d (λ x m. real x (known x m))

  to-shown : (d : Duty) → Member duties d → (v : PairingVector) (w : List (List Leg)) → Kept d v w → Shown d (shows d v) w
  to-shown d k v w p = record {
    before = p.before;
    walk = p.walk;
    begins = p.begins;
    linked = p.linked;
    are_known = λ x m. to-known x (p.are_known x m);
    value = unmapped s.trip_rig d.release (value_of s price (p.before ++ d ∷ [])) v (sym (shown-at p.before d (all-known p.before d p.are_known k)) ∙ p.value);
  }

  from-shown : (d : Duty) → Member duties d → (x : PairingVector) (w : List (List Leg)) → Shown d x w → Kept d (keeps d x) w
  from-shown d k x w p =
      let known = λ (y : Duty) (m : Member p.before y). from-known y (p.are_known y m) in
      record {
        before = p.before;
        walk = p.walk;
        begins = p.begins;
        linked = p.linked;
        are_known = known;
        value = shown-at p.before d (all-known p.before d known k) ∙ ap (option_map (keeps d)) p.value;
      }

  undominated-to : (d : Duty) → Member duties d → (v : PairingVector) → Undominated is_at_most (Kept d) v → Undominated is_at_most (Shown d) (shows d v)
  undominated-to d k v u = record {
    walk = u.walk;
    has = to-shown d k v u.walk u.has;
    unbeaten = λ x y q b. u.unbeaten (keeps d x) y (from-shown d k x y q) (
      ap (is_at_most (keeps d x)) (sym (anchored-shown s.trip_rig d.release v)) ∙ (anchored-order s.trip_rig d.release x (shows d v) ∙ b.0),
      λ e. b.1 (sym (shown-anchored s.trip_rig d.release x) ∙ ap (shows d) e),
    );
  }

  undominated-from : (d : Duty) → Member duties d → (x : PairingVector) → Undominated is_at_most (Shown d) x → Undominated is_at_most (Kept d) (keeps d x)
  undominated-from d k x u = record {
    walk = u.walk;
    has = from-shown d k x u.walk u.has;
    unbeaten = λ v y q b. u.unbeaten (shows d v) y (to-shown d k v y q) (
      sym (anchored-order s.trip_rig d.release (shows d v) x) ∙ (ap (λ z. is_at_most z (keeps d x)) (anchored-shown s.trip_rig d.release v) ∙ b.0),
      λ e. b.1 (sym (anchored-shown s.trip_rig d.release v) ∙ ap (keeps d) e),
    );
  }

  -- each beginning of a list of known duties ends with one
  beginning-known : (bs : List Duty) (e : Duty) (rest before : List Duty) (d : Duty) → bs ++ e ∷ rest ≡ before ++ d ∷ [] → ((x : Duty) → Member (before ++ d ∷ []) x → Member duties x) → (x : Duty) → Member (bs ++ e ∷ rest) x → Member duties x
  beginning-known bs e rest before d q known x m = known x (subst (λ z. Member z x) q m)

  begun-known : (bs : List Duty) (e : Duty) (rest : List Duty) → ((x : Duty) → Member (bs ++ e ∷ rest) x → Member duties x) → (x : Duty) → Member (bs ++ e ∷ []) x → Member duties x
  begun-known bs e rest known = all-known bs e (λ y m. known y (Member-append_left bs (e ∷ rest) y m)) (known e (last-in bs e rest))

  clean-to : (d : Duty) → Member duties d → (v : PairingVector) (w : List (List Leg)) → KeptClean d v w → ShownClean d (shows d v) w
  unfolding to-shown
  clean-to d k v w c = record {
    path = to-shown d k v w c.path;
    clean = λ bs e rest u q value.
        let known = beginning-known bs e rest c.path.before d q (all-known c.path.before d c.path.are_known k) in
        let there = c.clean bs e rest (keeps e u) q (shown-at bs e (begun-known bs e rest known) ∙ ap (option_map (keeps e)) value) in
        subst (Undominated is_at_most (Shown e)) (shown-anchored s.trip_rig e.release u) (undominated-to e (known e (last-in bs e rest)) (keeps e u) there);
  }

  clean-from : (d : Duty) → Member duties d → (x : PairingVector) (w : List (List Leg)) → ShownClean d x w → KeptClean d (keeps d x) w
  unfolding from-shown
  clean-from d k x w c = record {
    path = from-shown d k x w c.path;
    clean = λ bs e rest u q value.
        let known = beginning-known bs e rest c.path.before d q (all-known c.path.before d (λ y m. from-known y (c.path.are_known y m)) k) in
        let has = unmapped s.trip_rig e.release (value_of s price (bs ++ e ∷ [])) u (sym (shown-at bs e (begun-known bs e rest known)) ∙ value) in
        let there = c.clean bs e rest (shows e u) q has in
        subst (Undominated is_at_most (Kept e)) (anchored-shown s.trip_rig e.release u) (undominated-from e (known e (last-in bs e rest)) (shows e u) there);
  }

  front-to : (d : Duty) → Member duties d → (entries : List (PairingVector × List (List Leg))) → IsFront is_at_most walk_at_most (Kept d) (KeptClean d) entries
      → IsFront is_at_most walk_at_most (Shown d) (ShownClean d) (shown_labels s.trip_rig d.release entries)
  front-to d k entries f = record {
    clean = λ x w m. subst (λ z. ShownClean d z w) (shown-anchored s.trip_rig d.release x)
        (clean-to d k (keeps d x) w (f.clean (keeps d x) w (shown-Member s.trip_rig d.release entries x w m)));
    undominated = λ x w m. subst (Undominated is_at_most (Shown d)) (shown-anchored s.trip_rig d.release x)
        (undominated-to d k (keeps d x) (f.undominated (keeps d x) w (shown-Member s.trip_rig d.release entries x w m)));
    least = λ x w y m c. f.least (keeps d x) w y (shown-Member s.trip_rig d.release entries x w m) (clean-from d k x y c);
    every = λ x u.
        let e = f.every (keeps d x) (undominated-from d k x u) in
        (e.0, subst (λ z. Member (shown_labels s.trip_rig d.release entries) (z, e.0)) (shown-anchored s.trip_rig d.release x) (Member-shown s.trip_rig d.release entries (keeps d x) e.0 e.1));
  }

  -- a front of values, shown at the duty's release, is the node's front
  pub shown-front : (d : Duty) → Member duties d → (entries : List (PairingVector × List (List Leg))) → IsFront is_at_most walk_at_most (Kept d) (KeptClean d) entries
      → IsFrontAt s t base price d (shown_labels s.trip_rig d.release entries)
  shown-front d k entries f = Plain.front-from s t base price checked sound d (to-known d k) (shown_labels s.trip_rig d.release entries) (front-to d k entries f)
