-- The partials of a node are the lists of label setting: of known duties, each of which may stand after the one before, with a value.
use Rattle.std.proofs.Common.{◌≡◌, ℕ, Bool, true, cond, List, [], ◌∷◌, ◌++◌, ◌⊎◌, inl, inr, Option, Some, None, ℤ, pos, ◌-ℤ◌, refl, sym, ◌∙◌, ap, subst, ⊎_elim, arith}
use Rattle.std.specs.Prelude.{◌≤ℤ◌, int_le}
use Rattle.std.specs.Ordering.{eq_by_cmp}
use Rattle.std.proofs.lemmas.Bool.{and_parts}
use Rattle.std.proofs.lemmas.Int.{ints}
use Rattle.crew_pairing.proofs.Complete.{all-every, all-sound}
use Rattle.crew_pairing.proofs.Timetables.{flights-of-timetable}
use Rattle.crew_pairing.specs.Duties.{flights_of}
use Rattle.crew_pairing.specs.Events as Events
use Rattle.crew_pairing.specs.Events.{MayFollow, arrival_of, departure_of}
use Rattle.crew_pairing.specs.Machinery.Listing.{all_duties}
use Rattle.crew_resource.specs.Members.{Each, Member}
use Rattle.crew_pairing.specs.Pairings.{AllRested, IsDuty, IsPartial, last_duty, may_stand_after}
use Rattle.crew_pairing.specs.declared.duty.Duty.{Duty}
use Rattle.crew_pairing.specs.Legs.{Leg}
use Rattle.crew_flights.specs.Codes.{code_cmp}
use Rattle.crew_flights.specs.Timetable.{IsSound, Timetable}
use Rattle.crew_resource.specs.Labels.{IsFront, Undominated}
use Rattle.crew_resource.specs.Machinery.Paths.{Begins, CleanPathTo, Linked, LinkedFrom, PathTo}
use Rattle.crew_resource.proofs.Members.{Member-append, Member-append_left}
use Rattle.crew_rules.specs.Settings.{IsChecked}
use Rattle.crew_rules.specs.declared.settings.Settings.{Settings}
use Rattle.crew_vector.specs.Machinery.Along.{GoesOn, IsLine}
use Rattle.crew_vector.specs.Dominance.{is_at_most}
use Rattle.crew_vector.specs.Fronts.{At, Clean, IsFrontAt, IsUndominated, walk_of}
use Rattle.crew_pairing.specs.Vectors.{vector_of}
use Rattle.crew_pairing.specs.Keys.{walk_at_most}
use Rattle.crew_vector.specs.Values.{value_of}
use Rattle.crew_pairing.specs.declared.vector.PairingVector.{PairingVector}
use Rattle.crew_vector.proofs.Cuts.{before_last, by-first, cut, each-of, last-split, whole-split}
use Rattle.crew_vector.proofs.Extended.{none-goes-on}
use Rattle.crew_vector.proofs.Fitting.{caps-of-whole, value-out}
use Rattle.crew_vector.proofs.LegalDuties.{legal-sound}
use Rattle.crew_vector.proofs.Orders.{code-itself, same-code}
use Rattle.crew_vector.proofs.Steps.{extends, opens, steps}

test-le : (a b : ℤ) → int_le a b ≡ true → a ≤ℤ b
test-le a b h = grind (arith, ints)

-- one duty after another, by the events between them
pub follows : (s : Settings) (e d : Duty) → IsChecked s → may_stand_after s e d ≡ true → MayFollow (arrival_of e) (departure_of d)
follows s e d checked h =
    let k = and_parts _ _ h in
    let r = and_parts _ _ k.1 in
    let least = test-le (pos 600) (d.report -ℤ e.release) r.0 in
    let most = test-le (d.report -ℤ e.release) (pos s.max_rest) r.1 in
    let cap = checked.max_rest_most in
    record { airport = same-code e.to d.from k.0; rest = least; rest_most = omega (arith, ints, most, cap) }

pub some-or-none : {V : Type 0} (o : Option V) → ((v : V) × (o ≡ Some v)) ⊎ (o ≡ None)
some-or-none None = inr refl
some-or-none (Some v) = inl (v, refl)

module _ (s : Settings) (t : Timetable) (base : List ℕ) (price : ℤ) (checked : IsChecked s) (sound : IsSound t) where
  abbrev pub known : List Duty
  known = all_duties s (flights_of t)

  abbrev pub key_of : Duty → List Leg
  key_of d = d.key

  abbrev pub may_start : Duty → Bool
  may_start d = eq_by_cmp code_cmp d.from base

  abbrev pub Path : Duty → PairingVector → List (List Leg) → Type 0
  Path = PathTo key_of known may_start (may_stand_after s) (value_of s price)

  abbrev pub CleanPath : Duty → PairingVector → List (List Leg) → Type 0
  CleanPath = CleanPathTo is_at_most key_of known may_start (may_stand_after s) (value_of s price)

  pub legal-known : (d : Duty) → IsDuty s (flights_of t) d → Member known d
  legal-known d l =
      subst (Member known) (sym l.3) (all-every s (flights_of t) l.0 l.1 (flights-of-timetable t sound) l.2)

  pub known-legal : (d : Duty) → Member known d → IsDuty s (flights_of t) d
  known-legal d m = all-sound s (flights_of t) d m

  pub legal-in-range : (d : Duty) → IsDuty s (flights_of t) d → Events.IsSound d
  legal-in-range d l = subst Events.IsSound (sym l.3) (legal-sound s (flights_of t) l.0 l.1 checked (flights-of-timetable t sound) l.2)

  each-known : (ds : List Duty) → Each (IsDuty s (flights_of t)) ds → (d : Duty) → Member ds d → Member known d
  each-known [] h d m = absurd m
  each-known (x ∷ ds) h d (inl e) = subst (Member known) e (legal-known x h.0)
  each-known (x ∷ ds) h d (inr m) = each-known ds h.1 d m

  goes-on : (first : Duty) (others : List Duty) → Each (IsDuty s (flights_of t)) others → AllRested s first others → GoesOn Events.IsSound MayFollow arrival_of departure_of first others
  goes-on first [] h r = tt
  goes-on first (next ∷ others) h r = (legal-in-range next h.0, follows s first next checked r.0, goes-on next others h.1 r.1)

  line : (first : Duty) (others : List Duty) → Each (IsDuty s (flights_of t)) (first ∷ others) → AllRested s first others → IsLine (first ∷ others)
  line first others h r = (legal-in-range first h.0, goes-on first others h.1 r)

  pub to-linked : (first : Duty) (others : List Duty) → AllRested s first others → LinkedFrom (may_stand_after s) first others
  to-linked first [] h = tt
  to-linked first (next ∷ others) h = (h.0, to-linked next others h.1)

  pub from-linked : (first : Duty) (others : List Duty) → LinkedFrom (may_stand_after s) first others → AllRested s first others
  from-linked first [] h = tt
  from-linked first (next ∷ others) h = (h.0, from-linked next others h.1)

  -- a partial has a value, its vector
  pub partial-value : (first : Duty) (others : List Duty) → IsPartial s (flights_of t) base first others → value_of s price (first ∷ others) ≡ Some (vector_of s price (first ∷ others))
  partial-value first others p =
      let within = caps-of-whole s first others (line first others p.legal p.rested) ∙ p.capped in
      ap (λ b. cond b (Some (vector_of s price (first ∷ others))) None) within

  pub to-path : (d : Duty) (v : PairingVector) (w : List (List Leg)) → At s t base price d v w → Path d v w
  to-path d v w a =
      let whole : before_last a.first a.others ++ d ∷ [] ≡ a.first ∷ a.others = ap (λ z. before_last a.first a.others ++ z ∷ []) (sym a.ends) ∙ whole-split a.first a.others in
      record {
        before = before_last a.first a.others;
        walk = a.walk ∙ ap walk_of (sym whole);
        begins = subst (Begins may_start) (sym whole) (code-itself a.first.from base a.partial.leaves);
        linked = subst (Linked (may_stand_after s)) (sym whole) (to-linked a.first a.others a.partial.rested);
        are_known = λ x m. each-known (a.first ∷ a.others) a.partial.legal x (subst (λ z. Member z x) whole (Member-append_left (before_last a.first a.others) (d ∷ []) x m));
        value = ap (value_of s price) whole ∙ (partial-value a.first a.others a.partial ∙ ap Some (sym a.vector));
      }

  path-known : (d : Duty) → Member known d → (v : PairingVector) (w : List (List Leg)) (p : Path d v w) → (x : Duty) → Member (p.before ++ d ∷ []) x → Member known x
  path-known d k v w p x m = ⊎_elim (p.are_known x) (⊎_elim (λ e. subst (Member known) e k) (λ b. absurd b)) (Member-append p.before (d ∷ []) x m)

  pub from-path : (d : Duty) → Member known d → (v : PairingVector) (w : List (List Leg)) → Path d v w → At s t base price d v w
  from-path d k v w p =
      let f = by-first p.before d in
      let out = value-out s price (f.first ∷ f.others) v (ap (value_of s price) (sym f.whole) ∙ p.value) in
      record {
        first = f.first;
        others = f.others;
        partial = record {
          legal = each-of (IsDuty s (flights_of t)) (f.first ∷ f.others) (λ x m. known-legal x (path-known d k v w p x (subst (λ z. Member z x) (sym f.whole) m)));
          leaves = same-code f.first.from base (subst (Begins may_start) f.whole p.begins);
          rested = from-linked f.first f.others (subst (Linked (may_stand_after s)) f.whole p.linked);
          capped = out.0;
        };
        ends = f.ends;
        vector = sym out.1;
        walk = p.walk ∙ ap walk_of f.whole;
      }

  pub undominated-to : (d : Duty) → Member known d → (v : PairingVector) → IsUndominated s t base price d v → Undominated is_at_most (Path d) v
  undominated-to d k v u = record { walk = u.walk; has = to-path d v u.walk u.has; unbeaten = λ x y p. u.unbeaten x y (from-path d k x y p) }

  pub undominated-from : (d : Duty) → Member known d → (v : PairingVector) → Undominated is_at_most (Path d) v → IsUndominated s t base price d v
  undominated-from d k v u = record { walk = u.walk; has = from-path d k v u.walk u.has; unbeaten = λ x y p. u.unbeaten x y (to-path d x y p) }

  -- a beginning of a list with a value has one, its vector
  beginning-value : (bs : List Duty) (e : Duty) (rest : List Duty) (v : PairingVector) (first : Duty) (taken : List Duty) → bs ++ e ∷ [] ≡ first ∷ taken → value_of s price (bs ++ e ∷ rest) ≡ Some v → value_of s price (bs ++ e ∷ []) ≡ Some (vector_of s price (first ∷ taken))
  beginning-value bs e rest v first taken q h =
      ⊎_elim
      (λ k. k.1 ∙ ap Some (sym (value-out s price (first ∷ taken) k.0 (ap (value_of s price) (sym q) ∙ k.1)).1))
      (λ n.
      let past = none-goes-on PairingVector Duty (opens s price) (extends s) is_at_most (value_of s price) (steps s price) bs e rest n in
      absurd (let z : ⊥ = (cc) in z))
      (some-or-none (value_of s price (bs ++ e ∷ [])))

  pub clean-from : (d : Duty) → Member known d → (v : PairingVector) (w : List (List Leg)) → CleanPath d v w → Clean s t base price d v w
  unfolding from-path
  clean-from d k v w c =
      let f = by-first c.path.before d in
      record {
        at = from-path d k v w c.path;
        stays = λ taken left q.
            let bs = before_last f.first taken in
            let e = last_duty f.first taken in
            let whole : bs ++ e ∷ left ≡ c.path.before ++ d ∷ [] = last-split f.first taken left ∙ (ap (λ z. f.first ∷ z) q ∙ sym f.whole) in
            let value = beginning-value bs e left v f.first taken (whole-split f.first taken) (ap (value_of s price) whole ∙ c.path.value) in
            let known_e = path-known d k v w c.path e (subst (λ z. Member z e) whole (in-middle bs e left)) in
            undominated-from e known_e (vector_of s price (f.first ∷ taken)) (c.clean bs e left (vector_of s price (f.first ∷ taken)) whole value);
      }
    where
      in-middle : (bs : List Duty) (e : Duty) (rest : List Duty) → Member (bs ++ e ∷ rest) e
      in-middle [] e rest = inl refl
      in-middle (b ∷ bs) e rest = inr (in-middle bs e rest)

  pub last-of-each : (first : Duty) (others : List Duty) → Each (IsDuty s (flights_of t)) (first ∷ others) → IsDuty s (flights_of t) (last_duty first others)
  last-of-each first [] h = h.0
  last-of-each first (next ∷ others) h = last-of-each next others h.1

  pub at-legal : (d : Duty) (v : PairingVector) (w : List (List Leg)) → At s t base price d v w → IsDuty s (flights_of t) d
  at-legal d v w a = subst (IsDuty s (flights_of t)) a.ends (last-of-each a.first a.others a.partial.legal)

  pub clean-to : (d : Duty) (v : PairingVector) (w : List (List Leg)) → Clean s t base price d v w → CleanPath d v w
  unfolding to-path
  clean-to d v w c =
      let first = c.at.first in
      let others = c.at.others in
      let split : before_last first others ++ d ∷ [] ≡ first ∷ others = ap (λ z. before_last first others ++ z ∷ []) (sym c.at.ends) ∙ whole-split first others in
      record {
        path = to-path d v w c.at;
        clean = λ bs e rest u q val.
            let k = cut bs e rest first others (q ∙ split) in
            let same : vector_of s price (first ∷ k.taken) ≡ u = (value-out s price (first ∷ k.taken) u (ap (value_of s price) (sym k.beginning) ∙ val)).1 in
            let und = c.stays k.taken rest k.left in
            let there : IsUndominated s t base price e u = subst (λ z. IsUndominated s t base price z u) k.ends (subst (IsUndominated s t base price (last_duty first k.taken)) same und) in
            let known_e = legal-known e (at-legal e u there.walk there.has) in
            undominated-to e known_e u there;
      }

  pub front-from : (d : Duty) → Member known d → (entries : List (PairingVector × List (List Leg))) → IsFront is_at_most walk_at_most (Path d) (CleanPath d) entries → IsFrontAt s t base price d entries
  front-from d k entries f = record {
    clean = λ v w m. clean-from d k v w (f.clean v w m);
    undominated = λ v w m. undominated-from d k v (f.undominated v w m);
    least = λ v w y m c. f.least v w y m (clean-to d v y c);
    every = λ v u. f.every v (undominated-to d k v u);
  }

  pub front-to : (d : Duty) → Member known d → (entries : List (PairingVector × List (List Leg))) → IsFrontAt s t base price d entries → IsFront is_at_most walk_at_most (Path d) (CleanPath d) entries
  front-to d k entries f = record {
    clean = λ v w m. clean-to d v w (f.clean v w m);
    undominated = λ v w m. undominated-to d k v (f.undominated v w m);
    least = λ v w y m c. f.least v w y m (clean-from d k v y c);
    every = λ v u. f.every v (undominated-from d k v u);
  }
