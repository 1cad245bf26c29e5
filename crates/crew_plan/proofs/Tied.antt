-- Pairings that tie by cost and walk are the same.
use Rattle.std.proofs.Common.{◌≡◌, ◌∙◌, ◌∷◌, ◌&&◌, ℕ, ℤ, List, true, min, length, pos, int_le, ap, sym, subst, arith}
use Rattle.std.specs.Ordering.{int_cmp, is_le, ordering_reverse}
use Rattle.std.specs.declared.cmp.Ordering.TheVariants.{Equal}
use Rattle.std.proofs.lemmas.Int.{ints}
use Rattle.crew_fronts.proofs.crew_answers_lemmas.Caps.{same-duties, same-rests, with_caps}
use Rattle.crew_fronts.specs.crew_answers.Bests.{IsPairing}
use Rattle.crew_flights.specs.Timetable.{IsSound, Timetable}
use Rattle.crew_pairing.specs.Duties.{flights_of}
use Rattle.crew_pairing.specs.Keys.{walk_cmp, walk_total}
use Rattle.crew_pairing.specs.Legality.{total}
use Rattle.crew_pairing.specs.Legs.{Leg}
use Rattle.crew_pairing.specs.Pairings.{minutes_away}
use Rattle.crew_plan.specs.Cheapest.{IsShown, pairing_cmp}
use Rattle.crew_resource.specs.Machinery.BothLaws.{both_equal}
use Rattle.crew_rules.specs.declared.settings.Settings.{Settings}
use Rattle.crew_fronts.proofs.crew_solve_lemmas.crew_vector_lemmas.OneBest.{same-pairing}
use Rattle.crew_fronts.proofs.crew_solve_lemmas.crew_vector_lemmas.Orders.{walk-order}
use Rattle.crew_fronts.specs.crew_solve.crew_vector.Bests as Plain
use Rattle.crew_fronts.specs.crew_solve.crew_vector.declared.priced.PricedPairing.{PricedPairing}

itself : (n : ℕ) → min n n ≡ n
itself n = omega arith

-- by totals alone a pairing is one under other caps
plainly : (s : Settings) (t : Timetable) (p : PricedPairing) → IsPairing s t p → Plain.IsPairing (with_caps s s.fdp_total s.away_cap) t p
plainly s t p h = record {
  price = h.price;
  based = h.based;
  first = h.first;
  others = h.others;
  partial = record {
    legal = same-duties s s.fdp_total s.away_cap (flights_of t) (h.first ∷ h.others) h.partial.legal;
    leaves = h.partial.leaves;
    rested = same-rests s s.fdp_total s.away_cap h.first h.others h.partial.rested;
    capped = subst (λ c. (int_le (total (λ d. d.fdp) (h.first ∷ h.others)) (pos c) && (int_le (total (λ d. d.fly) (h.first ∷ h.others)) (pos s.fly_cap)
        && (int_le (pos (length (h.first ∷ h.others))) (pos s.max_duties) && int_le (minutes_away (h.first ∷ h.others)) (pos s.away_cap)))) ≡ true) (sym (itself s.fdp_total)) h.partial.capped;
  };
  returns = h.returns;
  walk = h.walk;
  cost = h.cost;
  pay = h.pay;
  away = h.away;
}

same-walk : (a b : List (List Leg)) → walk_cmp a b ≡ Equal → a ≡ b
same-walk a b e = walk-order.antisymmetric a b (ap is_le e) (ap is_le (walk_total.antisymm b a ∙ ap ordering_reverse e))

same-cost : (a b : ℤ) → int_cmp a b ≡ Equal → a ≡ b
same-cost a b e = grind (arith, ints)

-- a walk and a cost tell a pairing
pub same-paired : (s : Settings) (t : Timetable) → IsSound t → (p q : PricedPairing) → IsPairing s t p → IsPairing s t q → p.walk ≡ q.walk → p.cost ≡ q.cost → p ≡ q
same-paired s t sound p q a b walk cost = same-pairing (with_caps s s.fdp_total s.away_cap) t sound p q (plainly s t p a) (plainly s t q b) walk cost

pub same-shown : (s : Settings) (t : Timetable) → IsSound t → (p q : PricedPairing) → IsShown s t p → IsShown s t q → pairing_cmp p q ≡ Equal → p ≡ q
same-shown s t sound p q a b e =
    let k = both_equal (int_cmp p.cost q.cost) (walk_cmp p.walk q.walk) e in
    same-paired s t sound p q a.pairing b.pairing (same-walk p.walk q.walk k.1) (same-cost p.cost q.cost k.0)
