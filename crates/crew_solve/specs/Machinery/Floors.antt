-- What the pairings of a departure's labels cost at least.
use Rattle.std.specs.Prelude.{◌≡◌, ◌≤ℤ◌, ◌+ℤ◌, ◌-ℤ◌, ℕ, ℤ, Bool, false, true, List, [], Option, Some, None, count_by, get_or, length, nat_lt, slice_get}
use Rattle.std.specs.List.{list_all}
use Rattle.std.specs.Int.{saturate_signed, w64}
use Rattle.crew_pairing.specs.Legs.{Leg}
use Rattle.crew_pairing.specs.declared.duty.Duty.{Duty}
use Rattle.crew_pairing.specs.declared.vector.PairingVector.{PairingVector}
use Rattle.crew_pool.specs.declared.label_walk.LabelWalk.{LabelWalk}
use Rattle.crew_resource.specs.Members.{Member}
use Rattle.crew_solve.specs.Apart.{flies, flown}
use Rattle.crew_solve.specs.Machinery.Homes.{home_from, walk_by_key}
use Rattle.crew_solve.specs.Machinery.Keeps.{is_wanted}
use Rattle.crew_solve.specs.Machinery.Takes.{Taken}
use Rattle.crew_sweep.specs.Sweeps.{BaseSweep}
use Rattle.crew_vector.specs.declared.priced.PricedPairing.{PricedPairing}

-- pairings that begin with a walk may be asked for: each flight that it flies is flown by fewer
abbrev pub may_begin : Option Taken → List (List Leg) → Bool
may_begin None w = true
may_begin (Some t) w = list_all (λ flight. nat_lt (count_by (flies flight) t.pairings) t.share)
    (flown w)

-- no label's duty pay is less, of those whose walks may begin pairings that are asked for
abbrev pub IsFloor : Option Taken → BaseSweep → ℤ → List (PairingVector × LabelWalk) → Type 0
IsFloor beside b floor labels = (l : PairingVector × LabelWalk) → Member labels l
    → may_begin beside (walk_by_key b l.1) ≡ true → floor ≤ℤ l.0.duty_pay

-- a pairing that the duty ends costs no less, where its cost fits
abbrev pub least_by : Duty → ℤ → ℤ
least_by d floor = saturate_signed w64 (floor +ℤ (d.pay -ℤ d.price))

-- no pairing of a list that is asked for costs less
abbrev pub CostFrom : Option Taken → ℤ → List PricedPairing → Type 0
CostFrom beside floor ps = (p : PricedPairing) → Member ps p → is_wanted beside p ≡ true
    → floor ≤ℤ p.cost

-- where a floor is known
abbrev pub MayCost : Option Taken → Option ℤ → List PricedPairing → Type 0
MayCost beside None ps = Unit {0}
MayCost beside (Some floor) ps = CostFrom beside floor ps

-- the floors of what comes home to a base by each departure, by its place in order of report
pub record AreFloors (beside : Option Taken) (b : BaseSweep) (floors : List (Option ℤ)) : Type
    0 where
  pub many : length floors ≡ length b.net.by_report
  pub right : (index : ℕ) → MayCost beside (get_or floors index None) (home_from b index)

-- pairings that begin with a walk that is marked, by its place, may not be asked for
abbrev pub AreMarks : Option Taken → BaseSweep → List Bool → Type 0
AreMarks beside b marks = (walk : ℕ) → get_or marks walk false ≡ true
    → may_begin beside (walk_by_key b (record { walk = walk; duty = 4_294_967_295 })) ≡ false

-- what is known of a base: its departures' floors, and which walks are marked
pub record Known : Type 0 where
  pub floors : List (Option ℤ)
  pub marks : List Bool

abbrev pub nothing_known : Known
nothing_known = record { floors = []; marks = [] }

pub record IsKnown (beside : Option Taken) (b : BaseSweep) (known : Known) : Type 0 where
  pub floors : AreFloors beside b known.floors
  pub marks : AreMarks beside b known.marks

-- what is known of each base
pub record AreKnown (beside : Option Taken) (sweeps : List BaseSweep) (known : List Known) : Type
    0 where
  pub many : length known ≡ length sweeps
  pub right : (place : ℕ) (b : BaseSweep) → slice_get sweeps place ≡ Some b
      → IsKnown beside b (get_or known place nothing_known)
