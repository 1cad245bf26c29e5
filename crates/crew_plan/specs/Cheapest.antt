-- The pairings that fronts show, and those of them that cost least: of all bases, and of one.
use Rattle.std.specs.Prelude.{◌≡◌, ◌⊎◌, ◌≤◌, ◌≤ℤ◌, ℕ, List, [], ◌∷◌, Option, Some, None, length}
use Rattle.std.specs.Cmp.{IsTotalOrder, int_cmp_total, on_total, then_total}
use Rattle.std.specs.Ordering.{int_cmp, then_cmp}
use Rattle.std.specs.declared.cmp.Ordering.{Ordering}
use Rattle.std.specs.declared.cmp.Ordering.TheVariants.{Less}
use Rattle.crew_fronts.specs.crew_answers.Bests.{IsPairing}
use Rattle.crew_fronts.specs.crew_answers.Fronts.{IsFrontAt}
use Rattle.crew_fronts.specs.crew_answers.LongVectors.{LongVector, long_vector_of}
use Rattle.crew_flights.specs.Timetable.{Timetable}
use Rattle.crew_pairing.specs.Keys.{walk_cmp, walk_total}
use Rattle.crew_pairing.specs.Legs.{Leg}
use Rattle.crew_pairing.specs.Pairings.{last_duty}
use Rattle.crew_resource.specs.Members.{Each, Member}
use Rattle.crew_rules.specs.declared.settings.Settings.{Settings}
use Rattle.crew_fronts.specs.crew_solve.crew_vector.Bests.{NoDearer}
use Rattle.crew_fronts.specs.crew_solve.crew_vector.declared.priced.PricedPairing.{PricedPairing}

-- a pairing that a front shows: its vector and its walk are an entry of the front of its base and
-- its last duty
pub record IsShown (s : Settings) (t : Timetable) (p : PricedPairing) : Type 0 where
  pub pairing : IsPairing s t p
  pub front : List (LongVector × List (List Leg))
  pub exact : IsFrontAt s t p.base pairing.price
      (last_duty pairing.first pairing.others) front
  pub held : Member front (long_vector_of s pairing.price pairing.first pairing.others, p.walk)

-- one of a base
abbrev pub IsShownOf : Settings → Timetable → List ℕ → PricedPairing → Type 0
IsShownOf s t base p = IsShown s t p × (p.base ≡ base)

-- by cost, and then by walk; a walk tells its base
abbrev pub pairing_cmp : PricedPairing → PricedPairing → Ordering
pairing_cmp = then_cmp (λ p q. int_cmp p.cost q.cost) (λ p q. walk_cmp p.walk q.walk)

pub pairing_total : IsTotalOrder pairing_cmp
pairing_total = then_total (on_total (λ p. p.cost) int_cmp_total) (on_total (λ p. p.walk) walk_total)

-- each stands before all later ones by its cost and walk
abbrev pub RiseByCost : List PricedPairing → Type 0
RiseByCost [] = Unit {0}
RiseByCost (p ∷ ps) = Each (λ later. pairing_cmp p later ≡ Less) ps × RiseByCost ps

-- of the pairings that are shown those that come first by cost and walk: as many as the limit, or all
-- where there are no more
pub record AreFirst (Shown : PricedPairing → Type 0) (limit : ℕ) (ps : List PricedPairing) : Type
    0 where
  pub rise : RiseByCost ps
  pub few : length ps ≤ limit
  pub shown : (p : PricedPairing) → Member ps p → Shown p
  pub least : (q : PricedPairing) → Shown q → Member ps q
      ⊎ ((length ps ≡ limit) × Each (λ p. pairing_cmp p q ≡ Less) ps)

-- of those of all bases that fronts show
abbrev pub AreCheapest : Settings → Timetable → ℕ → List PricedPairing → Type 0
AreCheapest s t limit ps = AreFirst (IsShown s t) limit ps

-- of those of one base
abbrev pub AreCheapestOf : Settings → Timetable → List ℕ → ℕ → List PricedPairing → Type 0
AreCheapestOf s t base limit ps = AreFirst (IsShownOf s t base) limit ps

-- of the pairings of a base that fronts show the first by cost and walk, than which no legal pairing
-- of the base costs less; none where the base has no legal pairing, or the code is no base
abbrev pub IsBestOf : Settings → Timetable → List ℕ → Option PricedPairing → Type 0
IsBestOf s t base None = (p : PricedPairing) → IsPairing s t p → p.base ≡ base → ⊥
IsBestOf s t base (Some best) = IsShownOf s t base best
    × ((p : PricedPairing) → IsShownOf s t base p → NoDearer best.cost best.walk p.cost p.walk)
    × ((p : PricedPairing) → IsPairing s t p → p.base ≡ base → best.cost ≤ℤ p.cost)
