-- Under each pairing lies a clean one that costs no more, so that the best costs the least of all.
use Rattle.std.proofs.Common.{◌≡◌, ℕ, true, ℤ, pos, ◌+ℤ◌, ◌-ℤ◌, ◌*ℤ◌, List, [], ◌∷◌, Some, None, inl, inr, sym, ◌∙◌, ap, refl, subst, ⊎_elim, arith}
use Rattle.std.specs.Prelude.{◌≤ℤ◌}
use Rattle.std.specs.Ordering.{eq_by_cmp}
use Rattle.std.proofs.lemmas.Int.{ints}
use Rattle.crew_flights.specs.Codes.{code_cmp}
use Rattle.crew_flights.specs.Timetable.{IsSound, Timetable}
use Rattle.crew_rules.specs.Settings.{IsChecked}
use Rattle.crew_rules.specs.declared.settings.Settings.{Settings}
use Rattle.crew_resource.specs.Members.{Each}
use Rattle.crew_pairing.specs.Duties.{flights_of}
use Rattle.crew_pairing.specs.Keys.{walk_at_most}
use Rattle.crew_pairing.specs.Legs.{Leg}
use Rattle.crew_pairing.specs.Pairings.{IsDuty, is_pairing, last_duty, minutes_away}
use Rattle.crew_pairing.specs.Vectors.{cost_of, pay_of, prices, reduced_cost}
use Rattle.crew_pairing.specs.declared.duty.Duty.{Duty}
use Rattle.crew_vector.specs.Bests.{NoDearer}
use Rattle.crew_vector.specs.Dominance.{cost_respects}
use Rattle.crew_vector.specs.Fronts.{walk_of}
use Rattle.crew_vector.specs.declared.priced.PricedPairing.{PricedPairing}
use Rattle.crew_vector.proofs.Cuts.{append-nothing}
use Rattle.crew_vector.proofs.Fitting.{cost-is}
use Rattle.crew_vector.proofs.Orders.{code-itself, same-code, walk-order}
use Rattle.crew_answers.specs.Bests.{AreFronts, IsBest, IsCleanPairing, IsHomeEntry, IsPairing}
use Rattle.crew_answers.specs.Fronts.{At}
use Rattle.crew_answers.specs.LongVectors.{LongVector, long_vector_of}
use Rattle.crew_answers.proofs.PlainNodes.{each-below, each-clean}
use Rattle.crew_answers.proofs.Vectors.{sums-at-most}

last-of-each : (P : Duty → Type 0) (first : Duty) (others : List Duty) → Each P (first ∷ others) → P (last_duty first others)
last-of-each P first [] h = h.0
last-of-each P first (next ∷ others) h = last-of-each P next others h.1

-- what a cost and a trip rig each leave out is the same
pay-again : (cost pay prices rig rig_less : ℤ) → cost ≡ pay -ℤ prices → rig_less ≡ rig -ℤ prices → pay ≡ cost +ℤ (rig -ℤ rig_less)
pay-again cost pay prices rig rig_less h k = omega (arith, ints)

module _ (s : Settings) (t : Timetable) where
  -- an entry at home is a clean pairing
  pub entry-pairing : (front : List ℕ → Duty → List (LongVector × List (List Leg))) → AreFronts s t front → (base : List ℕ) (v : LongVector) (w : List (List Leg)) → IsHomeEntry s t front base v w
      → (p : PricedPairing) × IsCleanPairing s t p × (p.base ≡ base) × (p.walk ≡ w) × (p.cost ≡ reduced_cost v.sums)
      × (p.pay ≡ reduced_cost v.sums +ℤ (pos s.trip_rig *ℤ v.sums.away -ℤ v.sums.trip_rig)) × (p.away ≡ v.sums.away)
  entry-pairing front right base v w h =
      let clean = (right base h.price h.duty h.based h.legal).clean v w h.held in
      let at = clean.at in
      let p : PricedPairing = record {
        base = base;
        walk = w;
        cost = cost_of s h.price (at.first ∷ at.others);
        pay = pay_of s (at.first ∷ at.others);
        away = minutes_away (at.first ∷ at.others);
      } in
      let duties = at.first ∷ at.others in
      let cost : reduced_cost v.sums ≡ cost_of s h.price duties = ap (λ (z : LongVector). reduced_cost z.sums) at.vector ∙ cost-is s h.price duties in
      let away : v.sums.away ≡ minutes_away duties = ap (λ (z : LongVector). z.sums.away) at.vector in
      let home : is_pairing base at.first at.others ≡ true = ap (λ (d : Duty). eq_by_cmp code_cmp d.to base) at.ends ∙ code-itself h.duty.to base h.home in (
        p,
        record {
          pairing = record { price = h.price; based = h.based; first = at.first; others = at.others; partial = at.partial; returns = home; walk = at.walk; cost = refl; pay = refl; away = refl };
          stays = clean.stays;
        },
        refl,
        refl,
        sym cost,
        pay-again (reduced_cost v.sums) (pay_of s duties) (prices h.price duties) (pos s.trip_rig *ℤ v.sums.away) v.sums.trip_rig cost
            (ap (λ (z : LongVector). z.sums.trip_rig) at.vector ∙ ap (λ z. pos s.trip_rig *ℤ z -ℤ prices h.price duties) (sym away)),
        sym away,
      )

  module _ (range : IsChecked s) (sound : IsSound t) where
    pub clean-below : (p : PricedPairing) → IsPairing s t p → (q : PricedPairing) × IsCleanPairing s t q × (q.cost ≤ℤ p.cost)
    clean-below p h =
        let last = last_duty h.first h.others in
        let vector = long_vector_of s h.price h.first h.others in
        let here : At s t p.base h.price last vector (walk_of (h.first ∷ h.others)) =
        record { first = h.first; others = h.others; partial = h.partial; ends = refl; vector = refl; walk = refl } in
        let low = each-below s t p.base h.price range sound last vector (walk_of (h.first ∷ h.others)) here in
        let clean = each-clean s t p.base h.price range sound last low.0 low.1 in
        let at = clean.1.at in
        let q : PricedPairing = record {
          base = p.base;
          walk = walk_of (at.first ∷ at.others);
          cost = cost_of s h.price (at.first ∷ at.others);
          pay = pay_of s (at.first ∷ at.others);
          away = minutes_away (at.first ∷ at.others);
        } in
        let home : is_pairing p.base at.first at.others ≡ true = ap (λ (d : Duty). eq_by_cmp code_cmp d.to p.base) at.ends ∙ h.returns in
        let less = cost_respects low.0.sums vector.sums (sums-at-most low.0 vector low.2) in
        let cost_q : reduced_cost low.0.sums ≡ cost_of s h.price (at.first ∷ at.others) = ap (λ (z : LongVector). reduced_cost z.sums) at.vector ∙ cost-is s h.price (at.first ∷ at.others) in
        let cost_p : reduced_cost vector.sums ≡ p.cost = cost-is s h.price (h.first ∷ h.others) ∙ sym h.cost in (
          q,
          record {
            pairing = record { price = h.price; based = h.based; first = at.first; others = at.others; partial = at.partial; returns = home; walk = refl; cost = refl; pay = refl; away = refl };
            stays = clean.1.stays;
          },
          subst (λ z. z ≤ℤ p.cost) cost_q (subst (λ z. reduced_cost low.0.sums ≤ℤ z) cost_p less),
        )

    pub best-least : (best p : PricedPairing) → IsBest s t (Some best) → IsPairing s t p → best.cost ≤ℤ p.cost
    best-least best p is h =
        let q = clean-below p h in
        let less = q.2 in
        ⊎_elim (λ lt. omega (arith, ints, lt, less)) (λ eq. let e = eq.0 in omega (arith, ints, e, less)) (is.1 q.0 q.1)

    -- a clean pairing's vector is an entry at home, with a walk that is at most the pairing's
    pairing-entry : (front : List ℕ → Duty → List (LongVector × List (List Leg))) → AreFronts s t front → (p : PricedPairing) → IsCleanPairing s t p
        → (v : LongVector) × (w : List (List Leg)) × IsHomeEntry s t front p.base v w × (reduced_cost v.sums ≡ p.cost) × (walk_at_most w p.walk ≡ true)
    pairing-entry front right p c =
        let is = c.pairing in
        let last = last_duty is.first is.others in
        let vector = long_vector_of s is.price is.first is.others in
        let legal = last-of-each (IsDuty s (flights_of t)) is.first is.others is.partial.legal in
        let f = right p.base is.price last is.based legal in
        let e = f.every vector (c.stays is.others [] (append-nothing is.others)) in (
          vector,
          e.0,
          record { price = is.price; based = is.based; duty = last; legal = legal; home = same-code last.to p.base is.returns; held = e.1 },
          cost-is s is.price (is.first ∷ is.others) ∙ sym is.cost,
          f.least vector e.0 p.walk e.1 (record { at = record { first = is.first; others = is.others; partial = is.partial; ends = refl; vector = refl; walk = is.walk }; stays = c.stays }),
        )

    pub least-entry : (front : List ℕ → Duty → List (LongVector × List (List Leg))) (best : PricedPairing) → AreFronts s t front → IsCleanPairing s t best
        → ((base : List ℕ) (v : LongVector) (w : List (List Leg)) → IsHomeEntry s t front base v w → NoDearer best.cost best.walk (reduced_cost v.sums) w) → IsBest s t (Some best)
    least-entry front best right clean least = (clean, each)
      where
        each : (p : PricedPairing) → IsCleanPairing s t p → NoDearer best.cost best.walk p.cost p.walk
        each p c =
            let e = pairing-entry front right p c in
            let n : NoDearer best.cost best.walk p.cost e.1 = subst (λ z. NoDearer best.cost best.walk z e.1) e.3 (least p.base e.0 e.1 e.2) in
            ⊎_elim inl (λ q. inr (q.0, walk-order.transitive best.walk e.1 p.walk q.1 e.4)) n

    pub no-entry : (front : List ℕ → Duty → List (LongVector × List (List Leg))) → AreFronts s t front
        → ((base : List ℕ) (v : LongVector) (w : List (List Leg)) → IsHomeEntry s t front base v w → ⊥) → IsBest s t None
    no-entry front right none = λ p h.
        let q = clean-below p h in
        let e = pairing-entry front right q.0 q.1 in
        none q.0.base e.0 e.1 e.2
