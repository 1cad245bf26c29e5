-- There is one best pairing: a walk tells its duties.
use Rattle.std.proofs.Common.{◌≡◌, ◌∷◌, ◌&&◌, ℕ, true, min, length, pos, int_le, inl, inr, Option, Some, None, refl, sym, subst, ap, arith}
use Rattle.std.proofs.lemmas.Int.{ints}
use Rattle.crew_flights.specs.Timetable.{IsSound, Timetable}
use Rattle.crew_rules.specs.declared.settings.Settings.{Settings}
use Rattle.crew_pairing.specs.Duties.{flights_of}
use Rattle.crew_pairing.specs.Legality.{total}
use Rattle.crew_pairing.specs.Pairings.{minutes_away}
use Rattle.crew_vector.specs.Bests as Plain
use Rattle.crew_vector.specs.Bests.{NoDearer}
use Rattle.crew_vector.specs.declared.priced.PricedPairing.{PricedPairing}
use Rattle.crew_vector.proofs.OneBest.{same-pairing}
use Rattle.crew_vector.proofs.Orders.{walk-order}
use Rattle.crew_answers.specs.Bests.{IsBest, IsPairing}
use Rattle.crew_answers.proofs.Caps.{same-duties, same-rests, with_caps}

itself : (n : ℕ) → min n n ≡ n
itself n = omega arith

-- by totals alone a pairing is one under other caps
plainly : (s : Settings) (t : Timetable) (p : PricedPairing) → IsPairing s t p → Plain.IsPairing (with_caps s s.fdp_total s.away_cap) t p
plainly s t p h = record {
  price = h.price;
  based = h.based;
  first = h.first;
  others = h.others;
  partial = record {
    legal = same-duties s s.fdp_total s.away_cap (flights_of t) (h.first ∷ h.others) h.partial.legal;
    leaves = h.partial.leaves;
    rested = same-rests s s.fdp_total s.away_cap h.first h.others h.partial.rested;
    capped = subst (λ c. (int_le (total (λ d. d.fdp) (h.first ∷ h.others)) (pos c) && (int_le (total (λ d. d.fly) (h.first ∷ h.others)) (pos s.fly_cap)
        && (int_le (pos (length (h.first ∷ h.others))) (pos s.max_duties) && int_le (minutes_away (h.first ∷ h.others)) (pos s.away_cap)))) ≡ true) (sym (itself s.fdp_total)) h.partial.capped;
  };
  returns = h.returns;
  walk = h.walk;
  cost = h.cost;
  pay = h.pay;
  away = h.away;
}

both-least : (a b : PricedPairing) → NoDearer a.cost a.walk b.cost b.walk → NoDearer b.cost b.walk a.cost a.walk → (a.cost ≡ b.cost) × (a.walk ≡ b.walk)
both-least a b (inl h) (inl k) = absurd (omega (arith, ints, h, k))
both-least a b (inl h) (inr k) = absurd (let e = k.0 in omega (arith, ints, h, e))
both-least a b (inr h) (inl k) = absurd (let e = h.0 in omega (arith, ints, k, e))
both-least a b (inr h) (inr k) = (h.0, walk-order.antisymmetric a.walk b.walk h.1 k.1)

pub one-best : (s : Settings) (t : Timetable) (a b : Option PricedPairing) → IsSound t → IsBest s t a → IsBest s t b → a ≡ b
one-best s t None None sound h k = refl
one-best s t None (Some q) sound h k = absurd (h q k.0.pairing)
one-best s t (Some p) None sound h k = absurd (k p h.0.pairing)
one-best s t (Some p) (Some q) sound h k =
    let same = both-least p q (h.1 q k.0) (k.1 p h.0) in
    ap Some (same-pairing (with_caps s s.fdp_total s.away_cap) t sound p q (plainly s t p h.0.pairing) (plainly s t q k.0.pairing) same.1 same.0)
