-- Under each pairing lies one that a front shows, so that the first of the cheapest is the best.
use Rattle.std.proofs.Common.{◌≡◌, ◌∙◌, ◌<◌, ℕ, ℤ, true, List, [], ◌∷◌, Option, Some, None, inl, inr, refl, sym, ap, subst, ⊎_elim, arith}
use Rattle.std.specs.FinMap as fin
use Rattle.std.specs.Prelude.{◌≤ℤ◌, ◌<ℤ◌, slice_get}
use Rattle.std.specs.Ordering.{eq_by_cmp, int_cmp, is_le, ordering_then}
use Rattle.std.specs.declared.cmp.Ordering.{Ordering}
use Rattle.std.specs.declared.cmp.Ordering.TheVariants.{Less, Equal, Greater}
use Rattle.std.proofs.lemmas.Int.{ints}
use Rattle.crew_fronts.specs.crew_answers.Bests.{IsBest, IsCleanPairing, IsPairing}
use Rattle.crew_fronts.specs.crew_answers.Fronts.{At, IsFrontAt}
use Rattle.crew_fronts.specs.crew_answers.LongVectors.{LongVector, long_vector_of}
use Rattle.crew_fronts.proofs.crew_answers_lemmas.OneBest.{one-best}
use Rattle.crew_fronts.proofs.crew_answers_lemmas.PlainNodes.{each-below, node-front}
use Rattle.crew_fronts.proofs.crew_answers_lemmas.Vectors.{sums-at-most}
use Rattle.crew_flights.specs.Codes.{code_cmp}
use Rattle.crew_flights.specs.Timetable.{IsSound, Timetable}
use Rattle.crew_pairing.proofs.Tree.{Each-member}
use Rattle.crew_pairing.specs.Keys.{walk_at_most, walk_cmp}
use Rattle.crew_pairing.specs.Legs.{Leg}
use Rattle.crew_pairing.specs.Pairings.{is_pairing, last_duty, minutes_away}
use Rattle.crew_pairing.specs.Vectors.{cost_of, pay_of, reduced_cost}
use Rattle.crew_pairing.specs.declared.duty.Duty.{Duty}
use Rattle.crew_resource.specs.Members.{Member}
use Rattle.crew_rules.specs.Settings.{IsChecked}
use Rattle.crew_rules.specs.declared.settings.Settings.{Settings}
use Rattle.crew_plan.proofs.Placed.{last-of-each}
use Rattle.crew_plan.proofs.Tied.{same-paired}
use Rattle.crew_plan.specs.Cheapest.{AreCheapest, AreFirst, IsShown, pairing_cmp}
use Rattle.crew_fronts.proofs.crew_solve_lemmas.crew_vector_lemmas.Cuts.{append-nothing}
use Rattle.crew_fronts.proofs.crew_solve_lemmas.crew_vector_lemmas.Fitting.{cost-is}
use Rattle.crew_fronts.proofs.crew_solve_lemmas.crew_vector_lemmas.Orders.{walk-order}
use Rattle.crew_fronts.specs.crew_solve.crew_vector.Bests.{NoDearer}
use Rattle.crew_fronts.specs.crew_solve.crew_vector.Dominance.{cost_respects}
use Rattle.crew_fronts.specs.crew_solve.crew_vector.Fronts.{walk_of}
use Rattle.crew_fronts.specs.crew_solve.crew_vector.declared.priced.PricedPairing.{PricedPairing}

-- a pairing that a front shows, with the node and the entry that show it
record IsOfEntry (s : Settings) (t : Timetable) (base : List ℕ) (d : Duty) (v : LongVector) (w : List (List Leg)) (q : PricedPairing) : Type 0 where
  shown : IsShown s t q
  clean : IsCleanPairing s t q
  own : q.base ≡ base
  walk : q.walk ≡ w
  cost : q.cost ≡ reduced_cost v.sums
  last : last_duty shown.pairing.first shown.pairing.others ≡ d

abbrev HasOneBelow : (s : Settings) (t : Timetable) (p : PricedPairing) → IsPairing s t p → Type 0
HasOneBelow s t p pairing = (q : PricedPairing) × (shown : IsShown s t q) × (q.base ≡ p.base) × (last_duty shown.pairing.first shown.pairing.others ≡ last_duty pairing.first pairing.others) × (q.cost ≤ℤ p.cost)

less-cost : (a b : ℤ) → int_cmp a b ≡ Less → a <ℤ b
less-cost a b e = grind (arith, ints)

equal-cost : (a b : ℤ) → int_cmp a b ≡ Equal → a ≡ b
equal-cost a b e = grind (arith, ints)

-- what comes before by cost and walk is no dearer
by-order : (o : Ordering) (a b : ℤ) (w x : List (List Leg)) → int_cmp a b ≡ o → ordering_then o (walk_cmp w x) ≡ Less → NoDearer a w b x
by-order Less a b w x e h = inl (less-cost a b e)
by-order Equal a b w x e h = inr (equal-cost a b e, ap is_le h)
by-order Greater a b w x e h = absurd (let z : ⊥ = (cc) in z)

no-dearer : (p q : PricedPairing) → pairing_cmp p q ≡ Less → NoDearer p.cost p.walk q.cost q.walk
no-dearer p q h = by-order (int_cmp p.cost q.cost) p.cost q.cost p.walk q.walk refl h

-- the first of the cheapest comes first of all that are shown
pub first-of : (Shown : PricedPairing → Type 0) (limit : ℕ) (p : PricedPairing) (ps : List PricedPairing) → AreFirst Shown limit (p ∷ ps) → (q : PricedPairing) → Shown q → NoDearer p.cost p.walk q.cost q.walk
first-of Shown limit p ps h q shown =
    let itself : (x : PricedPairing) → p ≡ x → NoDearer p.cost p.walk x.cost x.walk = λ x e. inr (ap (λ (z : PricedPairing). z.cost) e, subst (λ (z : PricedPairing). walk_at_most p.walk z.walk ≡ true) e (walk-order.reflexive p.walk)) in
    ⊎_elim {C = NoDearer p.cost p.walk q.cost q.walk}
    (λ m. ⊎_elim {C = NoDearer p.cost p.walk q.cost q.walk} (itself q) (λ k. no-dearer p q (Each-member (λ x. pairing_cmp p x ≡ Less) ps q h.rise.0 k)) m)
    (λ k. no-dearer p q k.1.0)
    (h.least q shown)

module _ (s : Settings) (t : Timetable) (checked : IsChecked s) (sound : IsSound t) where
  of-entry : (base : List ℕ) (price : ℤ) (d : Duty) (front : List (LongVector × List (List Leg))) → fin.get t.bases base ≡ Some price → eq_by_cmp code_cmp d.to base ≡ true → IsFrontAt s t base price d front
      → (v : LongVector) (w : List (List Leg)) → Member front (v, w) → (q : PricedPairing) × IsOfEntry s t base d v w q
  of-entry base price d front based home exact v w m =
      let clean = exact.clean v w m in
      let at = clean.at in
      let duties = at.first ∷ at.others in
      let q : PricedPairing = record { base = base; walk = w; cost = cost_of s price duties; pay = pay_of s duties; away = minutes_away duties } in
      let returns : is_pairing base at.first at.others ≡ true = ap (λ (x : Duty). eq_by_cmp code_cmp x.to base) at.ends ∙ home in
      let pairing : IsPairing s t q = record { price = price; based = based; first = at.first; others = at.others; partial = at.partial; returns = returns; walk = at.walk; cost = refl; pay = refl; away = refl } in (
        q,
        record {
          shown = record {
            pairing = pairing;
            front = front;
            exact = subst (λ x. IsFrontAt s t base price x front) (sym at.ends) exact;
            held = subst (λ u. Member front (u, w)) at.vector m;
          };
          clean = record { pairing = pairing; stays = clean.stays };
          own = refl;
          walk = refl;
          cost = sym (ap (λ (u : LongVector). reduced_cost u.sums) at.vector ∙ cost-is s price duties);
          last = at.ends;
        },
      )

  pub one-below : (p : PricedPairing) (pairing : IsPairing s t p) → HasOneBelow s t p pairing
  one-below p h =
      let last = last_duty h.first h.others in
      let vector = long_vector_of s h.price h.first h.others in
      let here : At s t p.base h.price last vector (walk_of (h.first ∷ h.others)) = record { first = h.first; others = h.others; partial = h.partial; ends = refl; vector = refl; walk = refl } in
      let low = each-below s t p.base h.price checked sound last vector (walk_of (h.first ∷ h.others)) here in
      let legal = last-of-each s t h.first h.others h.partial.legal in
      let f = node-front s t p.base h.price checked sound last legal in
      let e = f.1.every low.0 low.1 in
      let q = of-entry p.base h.price last f.0 h.based h.returns f.1 low.0 e.0 e.1 in
      let cost : reduced_cost vector.sums ≡ p.cost = cost-is s h.price (h.first ∷ h.others) ∙ sym h.cost in (
        q.0,
        q.1.shown,
        q.1.own,
        q.1.last,
        subst (λ z. z ≤ℤ p.cost) (sym q.1.cost) (subst (λ z. reduced_cost low.0.sums ≤ℤ z) cost (cost_respects low.0.sums vector.sums (sums-at-most low.0 vector low.2))),
      )

  -- a clean pairing's cost is that of one that a front shows, whose walk is at most its own
  pub with-least-walk : (p : PricedPairing) → IsCleanPairing s t p → (q : PricedPairing) × IsShown s t q × (q.cost ≡ p.cost) × (walk_at_most q.walk p.walk ≡ true)
  with-least-walk p c =
      let is = c.pairing in
      let last = last_duty is.first is.others in
      let vector = long_vector_of s is.price is.first is.others in
      let legal = last-of-each s t is.first is.others is.partial.legal in
      let f = node-front s t p.base is.price checked sound last legal in
      let e = f.1.every vector (c.stays is.others [] (append-nothing is.others)) in
      let q = of-entry p.base is.price last f.0 is.based is.returns f.1 vector e.0 e.1 in
      let at-most = f.1.least vector e.0 p.walk e.1 (record { at = record { first = is.first; others = is.others; partial = is.partial; ends = refl; vector = refl; walk = is.walk }; stays = c.stays }) in
      (q.0, q.1.shown, q.1.cost ∙ (cost-is s is.price (is.first ∷ is.others) ∙ sym is.cost), subst (λ w. walk_at_most w p.walk ≡ true) (sym q.1.walk) at-most)

  -- what a front shows is clean
  pub shown-clean : (p : PricedPairing) → IsShown s t p → IsCleanPairing s t p
  shown-clean p h =
      let is = h.pairing in
      let duties = is.first ∷ is.others in
      let q = of-entry p.base is.price (last_duty is.first is.others) h.front is.based is.returns h.exact (long_vector_of s is.price is.first is.others) p.walk h.held in
      let same = same-paired s t sound q.0 p q.1.shown.pairing is q.1.walk (q.1.cost ∙ (cost-is s is.price duties ∙ sym is.cost)) in
      subst (IsCleanPairing s t) same q.1.clean

  first-best : (limit : ℕ) (p : PricedPairing) (ps : List PricedPairing) → AreCheapest s t limit (p ∷ ps) → IsBest s t (Some p)
  first-best limit p ps h =
      let each : (r : PricedPairing) → IsCleanPairing s t r → NoDearer p.cost p.walk r.cost r.walk = λ r c.
      let q = with-least-walk r c in
      let n : NoDearer p.cost p.walk r.cost q.0.walk = subst (λ z. NoDearer p.cost p.walk z q.0.walk) q.2 (first-of (IsShown s t) limit p ps h q.0 q.1) in
      ⊎_elim {C = NoDearer p.cost p.walk r.cost r.walk} inl (λ e. inr (e.0, walk-order.transitive p.walk q.0.walk r.walk e.1 q.3)) n in
      (shown-clean p (h.shown p (inl refl)), each)

  none-best : (limit : ℕ) → 0 < limit → AreCheapest s t limit [] → IsBest s t None
  none-best limit some h = λ p is.
      let q = one-below p is in
      ⊎_elim {C = ⊥} (λ m. m) (λ k. let full = k.0 in omega (arith, some, full)) (h.least q.0 q.1)

  pub best-first : (limit : ℕ) (ps : List PricedPairing) (best : Option PricedPairing) → 0 < limit → AreCheapest s t limit ps → IsBest s t best → best ≡ slice_get ps 0
  best-first limit [] best some h is = one-best s t best None sound is (none-best limit some h)
  best-first limit (p ∷ ps) best some h is = one-best s t best (Some p) sound is (first-best limit p ps h)
