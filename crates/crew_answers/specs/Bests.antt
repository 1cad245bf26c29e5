-- Pairings of up to 240 hours, the best of the clean ones, and what a timetable gives from scratch.
use Rattle.std.specs.Prelude.{◌≡◌, ℕ, true, ℤ, List, ◌∷◌, Option, Some, None}
use Rattle.std.specs.FinMap as map
use Rattle.crew_flights.specs.Timetable.{Timetable}
use Rattle.crew_rules.specs.declared.settings.Settings.{Settings}
use Rattle.crew_resource.specs.Members.{Member}
use Rattle.crew_pairing.specs.Duties.{flights_of}
use Rattle.crew_pairing.specs.Legs.{Leg}
use Rattle.crew_pairing.specs.Pairings.{IsDuty, is_pairing, minutes_away}
use Rattle.crew_pairing.specs.Vectors.{cost_of, pay_of}
use Rattle.crew_pairing.specs.declared.duty.Duty.{Duty}
use Rattle.crew_vector.specs.Bests.{NoDearer}
use Rattle.crew_vector.specs.Fronts.{walk_of}
use Rattle.crew_vector.specs.declared.priced.PricedPairing.{PricedPairing}
use Rattle.crew_history.specs.LongPairings.{IsLongPartial}
use Rattle.crew_answers.specs.Fronts.{IsFrontAt, StaysUndominated}
use Rattle.crew_answers.specs.LongVectors.{LongVector}

-- a pairing of a base of the timetable: a partial that returns to its base
pub record IsPairing (s : Settings) (t : Timetable) (p : PricedPairing) : Type
    0 where
  pub price : ℤ
  pub based : map.get t.bases p.base ≡ Some price
  pub first : Duty
  pub others : List Duty
  pub partial : IsLongPartial s (flights_of t) p.base first others
  pub returns : is_pairing p.base first others ≡ true
  pub walk : p.walk ≡ walk_of (first ∷ others)
  pub cost : p.cost ≡ cost_of s price (first ∷ others)
  pub pay : p.pay ≡ pay_of s (first ∷ others)
  pub away : p.away ≡ minutes_away (first ∷ others)

pub record IsCleanPairing (s : Settings) (t : Timetable) (p : PricedPairing) : Type
    0 where
  pub pairing : IsPairing s t p
  pub stays : StaysUndominated s t p.base pairing.price pairing.first pairing.others

-- of the clean pairings of all bases the one that is least by cost and walk; none where there is no
-- pairing
abbrev pub IsBest : Settings → Timetable → Option PricedPairing → Type 0
IsBest s t None = (p : PricedPairing) → IsPairing s t p → ⊥
IsBest s t (Some best) = IsCleanPairing s t best
    × ((p : PricedPairing) → IsCleanPairing s t p
    → NoDearer best.cost best.walk p.cost p.walk)

-- the front of each base and legal duty
abbrev pub AreFronts : Settings → Timetable
    → (List ℕ → Duty → List (LongVector × List (List Leg))) → Type 0
AreFronts s t front =
    (base : List ℕ) (price : ℤ) (d : Duty) → map.get t.bases base ≡ Some price
    → IsDuty s (flights_of t) d → IsFrontAt s t base price d (front base d)

-- an entry of a node that arrives at its base
pub record IsHomeEntry (s : Settings) (t : Timetable)
    (front : List ℕ → Duty → List (LongVector × List (List Leg))) (base : List ℕ)
    (v : LongVector) (w : List (List Leg)) : Type 0 where
  pub price : ℤ
  pub based : map.get t.bases base ≡ Some price
  pub duty : Duty
  pub legal : IsDuty s (flights_of t) duty
  pub home : duty.to ≡ base
  pub held : Member (front base duty) (v, w)

-- from scratch: the front of each base and legal duty, and the best pairing
pub record IsScratch (s : Settings) (t : Timetable)
    (front : List ℕ → Duty → List (LongVector × List (List Leg)))
    (best : Option PricedPairing) : Type 0 where
  pub fronts : AreFronts s t front
  pub best_is : IsBest s t best
