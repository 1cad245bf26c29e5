-- What stands at a departure, arrival by arrival.
use Rattle.std.proofs.Common.{◌≡◌, ◌∙◌, ◌<◌, ◌≤◌, ℕ, Bool, true, false, List, [], ℤ, pos, length, map, inl, inr, refl, sym, ap, subst, arith}
use Rattle.std.specs.Prelude.{int_le, ◌≤ℤ◌, ◌-ℤ◌}
use Rattle.std.specs.Ordering.{eq_by_cmp}
use Rattle.std.proofs.lemmas.Bool.{and_parts, false≢true}
use Rattle.std.proofs.lemmas.Int.{ints}
use Rattle.crew_flights.specs.Codes.{code_cmp}
use Rattle.crew_label.specs.Tables.{Tabled}
use Rattle.crew_label.specs.Walks.{shown}
use Rattle.crew_label.specs.declared.label.Label.{Label}
use Rattle.crew_label.specs.declared.label.Link.{Link}
use Rattle.crew_label.proofs.Halves.{few_pool}
use Rattle.crew_pairing.specs.Events.{MayFollow, may_wait}
use Rattle.crew_pairing.specs.declared.events.Arrival.{Arrival}
use Rattle.crew_pairing.specs.declared.events.Departure.{Departure}
use Rattle.crew_rules.specs.declared.settings.Settings.{Settings}
use Rattle.crew_resource.specs.Members.{Member}
use Rattle.crew_resource.proofs.Order.{IsOrder}
use Rattle.crew_net.proofs.Geometry.{code-equal}
use Rattle.crew_labelling.specs.Held.{AreHeld, IsHeld}
use Rattle.crew_labelling.specs.Candidates.{AreCovering, AreGathered, Idles, idle_labels}
use Rattle.crew_labelling.specs.Terms.{Terms}

rest-most : (most : ℕ) (r : ℤ) → most ≤ 8_280 → int_le r (pos most) ≡ true → r ≤ℤ pos 8_280
rest-most most r h e = grind (arith, ints)

rest-least : (r : ℤ) → int_le (pos 600) r ≡ true → pos 600 ≤ℤ r
rest-least r e = grind (arith, ints)

-- a departure that waits on an arrival may follow it
pub follows : (s : Settings) (x : Arrival) (g : Departure) → s.max_rest ≤ 8_280 → may_wait s x g ≡ true → MayFollow x g
follows s x g rests h =
    let a = and_parts _ _ h in
    let b = and_parts _ _ a.1 in
    record {
      airport = code-equal x.airport g.airport a.0;
      rest = rest-least (g.report -ℤ x.release) b.0;
      rest_most = rest-most s.max_rest (g.report -ℤ x.release) rests b.1;
    }

module _ {V : Type 0} (w : Terms V) (trail : Link → List ℕ) where
  pub covering : (C : V → List ℕ → Type 0) (labels : List (Label V)) → AreGathered w trail C labels → AreCovering w trail C labels
  covering C labels h = record {
    part = λ v k m. h.among v k (h.pool.among v k m);
    under = λ v k c. h.pool.covers v k (h.every v k c);
  }

  -- the empty label, and its entry
  pub idle-out : (here : Bool) (v u : V) (k : List ℕ) → Member (map (shown trail) (idle_labels here v)) (u, k) → (k ≡ []) × (here ≡ true) × (v ≡ u)
  idle-out true v u k (inl e) = (ap (λ (p : V × List ℕ). p.1) (sym e), refl, ap (λ (p : V × List ℕ). p.0) e)
  idle-out true v u k (inr m) = absurd m
  idle-out false v u k m = absurd m

  pub idle-in : (here : Bool) (v u : V) (k : List ℕ) → k ≡ [] → here ≡ true → v ≡ u → Member (map (shown trail) (idle_labels here v)) (u, k)
  idle-in true v u k p h e = inl (ap (λ (z : V). (z, [])) e ∙ ap (λ (z : List ℕ). (u, z)) (sym p))
  idle-in false v u k p h e = absurd (false≢true h)

  module _ (order : IsOrder w.below) (same_itself : (a : V) → w.same a a ≡ true)
      (same_between : (a b c : V) → w.below a b ≡ true → w.below b c ≡ true → w.same a c ≡ true → (w.same a b ≡ true) × (w.same b c ≡ true)) where
    few-idle : (here : Bool) (v : V) → length (idle_labels here v) < 2
    few-idle true v = omega arith
    few-idle false v = omega arith

    pub idle-gathered : (g : Departure) → AreGathered w trail (Idles w g) (idle_labels (eq_by_cmp code_cmp g.airport w.base) (w.idle g))
    idle-gathered g =
        let here = eq_by_cmp code_cmp g.airport w.base in
        let labels = idle_labels here (w.idle g) in
        record {
          listed = map (shown trail) labels;
          pool = few_pool w.below w.same trail order same_itself same_between labels (few-idle here (w.idle g));
          among = λ v k m. idle-out here (w.idle g) v k m;
          every = λ v k c. idle-in here (w.idle g) v k c.0 c.1 c.2;
        }

module _ {V : Type 0} (w : Terms V) (t : Tabled V) where
  pub idle-held : (here : Bool) (v : V) → w.count v ≡ pos 0 → w.ready 0 v → AreHeld w w.ready t (idle_labels here v)
  idle-held true v c r l (inl e) = subst (IsHeld w w.ready t) e (record {
    leading = tt;
    entry = record { counts = c; ranked = tt; few = λ m h. omega arith; bound = r };
  })
  idle-held true v c r l (inr m) = absurd m
  idle-held false v c r l m = absurd m
