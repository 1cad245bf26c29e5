-- The pairings that come home, base by base.
use Rattle.std.specs.Prelude.{◌≡◌, ◌<◌, ℕ, cond, List, [], ◌∷◌, length, map, take}
use Rattle.std.specs.List.{flat_map}
use Rattle.std.specs.Ordering.{eq_by_cmp}
use Rattle.crew_fronts.specs.crew_answers.LongVectors.{LongVector}
use Rattle.crew_flights.specs.Codes.{code_cmp}
use Rattle.crew_fronts.specs.Fronts.{BaseFronts, front_at}
use Rattle.crew_pairing.specs.Legs.{Leg}
use Rattle.crew_pairing.specs.declared.duty.Duty.{Duty}
use Rattle.crew_resource.specs.Members.{Member}
use Rattle.crew_fronts.specs.crew_solve.Apart.{taken_from}
use Rattle.crew_fronts.specs.crew_solve.Machinery.Homes.{HasPay, priced}
use Rattle.crew_fronts.specs.crew_solve.Machinery.Keeps.{keep_all, nothing}
use Rattle.crew_fronts.specs.crew_solve.crew_vector.declared.priced.PricedPairing.{PricedPairing}

-- the pairing of an entry
abbrev pub pairing_of : ℕ → List ℕ → LongVector × List (List Leg) → PricedPairing
pairing_of rate base e = priced rate base e.0.sums e.1

-- those of a duty's front
abbrev pub ended_by : ℕ → BaseFronts → Duty → List PricedPairing
ended_by rate b d = map (pairing_of rate b.base) (front_at b d)

-- where the duty ends at the base
abbrev pub home_at : ℕ → BaseFronts → Duty → List PricedPairing
home_at rate b d = cond (eq_by_cmp code_cmp d.to b.base) (ended_by rate b d) []

-- all that comes home to a base
abbrev pub home_of : ℕ → BaseFronts → List PricedPairing
home_of rate b = flat_map (home_at rate b) b.net.duties

-- the fronts of a base alone; none where there are none of it
abbrev pub alone : List ℕ → List BaseFronts → List BaseFronts
alone base [] = []
alone base (b ∷ bs) = cond (eq_by_cmp code_cmp b.base base) (b ∷ []) (alone base bs)

-- the amounts of the pairing of each entry fit
abbrev pub IsPayable : ℕ → BaseFronts → Type 0
IsPayable rate b = (d : Duty) (e : LongVector × List (List Leg)) → Member b.net.duties d
    → Member (front_at b d) e → HasPay rate e.0.sums

-- the first of it by cost and walk
abbrev pub first_home : ℕ → ℕ → List BaseFronts → List PricedPairing
first_home limit rate bases = (keep_all (nothing limit) (flat_map (home_of rate) bases)).pairings

-- the first that are taken of a list in order, up to a limit, where no flight is flown by more than so
-- many: of some beginning of it by cost and walk that is all of it
abbrev pub AreFirstApart : ℕ → ℕ → List PricedPairing → List PricedPairing → Type 0
AreFirstApart limit share all ps = (most : ℕ) × (length (keep_all (nothing most) all).pairings < most)
    × (ps ≡ take limit (taken_from share [] (keep_all (nothing most) all).pairings))
