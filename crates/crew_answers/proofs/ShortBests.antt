-- Where settings allow no pairing of more than 138 hours, the best pairing and scratch are those of the shorter rules.
use Rattle.std.proofs.Common.{◌≡◌, ℕ, false, List, Option, Some, None}
use Rattle.crew_flights.specs.Timetable.{IsSound, Timetable}
use Rattle.crew_rules.specs.declared.settings.Settings.{Settings}
use Rattle.crew_pairing.specs.Duties.{flights_of}
use Rattle.crew_pairing.specs.Legs.{Leg}
use Rattle.crew_pairing.specs.declared.duty.Duty.{Duty}
use Rattle.crew_pairing.specs.declared.vector.PairingVector.{PairingVector}
use Rattle.crew_vector.specs.Bests as Plain
use Rattle.crew_vector.specs.declared.priced.PricedPairing.{PricedPairing}
use Rattle.crew_answers.specs.Bests.{IsBest, IsCleanPairing, IsPairing, IsScratch}
use Rattle.crew_answers.specs.LongVectors.{LongVector, is_long, settings_of_sums}
use Rattle.crew_answers.specs.ShortPairings.{sums_of, with_no_pasts}
use Rattle.crew_answers.proofs.Caps.{same-duty}
use Rattle.crew_answers.proofs.ShortPartials.{partial-from-long, partial-to-long}
use Rattle.crew_answers.proofs.ShortFronts.{front-from-long, front-to-long, stays-from-long, stays-to-long}

module _ (s : Settings) (t : Timetable) (sound : IsSound t) (short : is_long s ≡ false) where
  pub pairing-to-long : (p : PricedPairing) → Plain.IsPairing (settings_of_sums s) t p → IsPairing s t p
  pairing-to-long p h = record {
    price = h.price;
    based = h.based;
    first = h.first;
    others = h.others;
    partial = partial-to-long s t p.base h.first h.others sound short h.partial;
    returns = h.returns;
    walk = h.walk;
    cost = h.cost;
    pay = h.pay;
    away = h.away;
  }

  pub pairing-from-long : (p : PricedPairing) → IsPairing s t p → Plain.IsPairing (settings_of_sums s) t p
  pairing-from-long p h = record {
    price = h.price;
    based = h.based;
    first = h.first;
    others = h.others;
    partial = partial-from-long s t p.base h.first h.others sound short h.partial;
    returns = h.returns;
    walk = h.walk;
    cost = h.cost;
    pay = h.pay;
    away = h.away;
  }

  pub clean-pairing-to-long : (p : PricedPairing) → Plain.IsCleanPairing (settings_of_sums s) t p → IsCleanPairing s t p
  unfolding pairing-to-long
  clean-pairing-to-long p h = record {
    pairing = pairing-to-long p h.pairing;
    stays = stays-to-long s t p.base h.pairing.price sound short h.pairing.first h.pairing.others h.stays;
  }

  pub clean-pairing-from-long : (p : PricedPairing) → IsCleanPairing s t p → Plain.IsCleanPairing (settings_of_sums s) t p
  unfolding pairing-from-long
  clean-pairing-from-long p h = record {
    pairing = pairing-from-long p h.pairing;
    stays = stays-from-long s t p.base h.pairing.price sound short h.pairing.first h.pairing.others h.stays;
  }

  pub best-to-long : (best : Option PricedPairing) → Plain.IsBest (settings_of_sums s) t best → IsBest s t best
  best-to-long None h = λ p q. h p (pairing-from-long p q)
  best-to-long (Some best) h = (clean-pairing-to-long best h.0, λ p q. h.1 p (clean-pairing-from-long p q))

  pub best-from-long : (best : Option PricedPairing) → IsBest s t best → Plain.IsBest (settings_of_sums s) t best
  best-from-long None h = λ p q. h p (pairing-to-long p q)
  best-from-long (Some best) h = (clean-pairing-from-long best h.0, λ p q. h.1 p (clean-pairing-to-long p q))

  pub scratch-to-long : (front : List ℕ → Duty → List (PairingVector × List (List Leg))) (best : Option PricedPairing)
      → Plain.IsScratch (settings_of_sums s) t front best → IsScratch s t (λ base d. with_no_pasts (front base d)) best
  scratch-to-long front best h = record {
    fronts = λ base price d based legal.
        front-to-long s t base price sound short d (front base d)
        (h.fronts base price d based (same-duty s (settings_of_sums s).fdp_cap s.away_cap (flights_of t) d legal));
    best_is = best-to-long best h.best_is;
  }

  pub scratch-from-long : (front : List ℕ → Duty → List (LongVector × List (List Leg))) (best : Option PricedPairing)
      → IsScratch s t front best → Plain.IsScratch (settings_of_sums s) t (λ base d. sums_of (front base d)) best
  scratch-from-long front best h = record {
    fronts = λ base price d based legal.
        front-from-long s t base price sound short d (front base d)
        (h.fronts base price d based (same-duty (settings_of_sums s) s.fdp_cap s.away_cap (flights_of t) d legal));
    best_is = best-from-long best h.best_is;
  }
