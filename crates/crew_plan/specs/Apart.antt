-- Pairings that share few flights, taken one after another from all that fronts show: of all bases,
-- or of one.
use Rattle.std.specs.Prelude.{◌≡◌, ℕ, Bool, cond, nat_eq, nat_lt, List, [], ◌∷◌, ◌++◌, count_by, take}
use Rattle.std.specs.List.{flat_map, list_all, list_any}
use Rattle.crew_flights.specs.Timetable.{Timetable}
use Rattle.crew_pairing.specs.Legs.{Leg}
use Rattle.crew_resource.specs.Members.{Member}
use Rattle.crew_rules.specs.declared.settings.Settings.{Settings}
use Rattle.crew_plan.specs.Cheapest.{IsShown, IsShownOf, RiseByCost}
use Rattle.crew_fronts.specs.crew_solve.crew_vector.declared.priced.PricedPairing.{PricedPairing}

-- the flight that the crew flies on a leg; none where it rides
abbrev pub flown_on : Leg → List ℕ
flown_on l = cond l.deadhead [] (l.flight ∷ [])

-- those of a walk
abbrev pub flown : List (List Leg) → List ℕ
flown walk = flat_map (flat_map flown_on) walk

abbrev pub flies : ℕ → PricedPairing → Bool
flies flight p = list_any (nat_eq flight) (flown p.walk)

-- fewer than so many of those taken fly each flight that the pairing flies
abbrev pub is_apart : ℕ → List PricedPairing → PricedPairing → Bool
is_apart share taken p = list_all (λ flight. nat_lt (count_by (flies flight) taken) share)
    (flown p.walk)

-- of a list, in its order, each that is apart from those taken before it
abbrev pub taken_from : ℕ → List PricedPairing → List PricedPairing → List PricedPairing
taken_from share taken [] = []
taken_from share taken (p ∷ ps) = cond (is_apart share taken p)
    (p ∷ taken_from share (taken ++ p ∷ []) ps) (taken_from share taken ps)

-- all pairings that are shown, by cost and walk
pub record AreAll (Shown : PricedPairing → Type 0) (ps : List PricedPairing) : Type 0 where
  pub rise : RiseByCost ps
  pub shown : (p : PricedPairing) → Member ps p → Shown p
  pub each : (p : PricedPairing) → Shown p → Member ps p

-- the first that are taken of them all, up to a limit, where no flight is flown by more than so many
pub record AreTaken (Shown : PricedPairing → Type 0) (limit share : ℕ) (ps : List PricedPairing)
    : Type 0 where
  pub all : List PricedPairing
  pub are : AreAll Shown all
  pub first : ps ≡ take limit (taken_from share [] all)

-- of the pairings of all bases that fronts show
abbrev pub AreApart : Settings → Timetable → ℕ → ℕ → List PricedPairing → Type 0
AreApart s t limit share ps = AreTaken (IsShown s t) limit share ps

-- of those of one base
abbrev pub AreApartOf : Settings → Timetable → List ℕ → ℕ → ℕ → List PricedPairing → Type 0
AreApartOf s t base limit share ps = AreTaken (IsShownOf s t base) limit share ps
