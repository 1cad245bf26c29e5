-- Where a pass stands, by what it goes by.
use Rattle.std.specs.Prelude.{◌≡◌, ◌≤◌, ◌-◌, ℕ, List}
use Rattle.crew_anchor.specs.Machinery.Bounds.{fits_in}
use Rattle.crew_anchor.specs.declared.resource.AnchoredResource.{AnchoredResource}
use Rattle.crew_net.specs.Nets.{Net}
use Rattle.crew_pairing.specs.declared.vector.PairingVector.{PairingVector}
use Rattle.crew_pool.specs.declared.label_walk.LabelWalk.{LabelWalk}
use Rattle.crew_sweep.specs.Machinery.Passing.{HasPassed, HaveStayed, IsArrivalPool, IsPassable, IsPassing}
use Rattle.crew_sweep.specs.Machinery.Slides.{AreUnderWay}
use Rattle.crew_sweep.specs.declared.arrivals.Arrivals.{Arrivals}
use Rattle.crew_sweep.specs.declared.ground.Ground.{Ground}
use Rattle.crew_sweep.specs.declared.passed.Passed.{Passed}
use Rattle.crew_sweep.specs.declared.passing.Passing.{Passing}

-- a pass may go by it
pub record IsGround (g : Ground) : Type 0 where
  pub passable : IsPassable g.net.now g.positions.now
  pub fits : (n : ℕ) → n ≤ 100_000 → fits_in g.resource n
  pub most : g.resource.max_duties ≤ 12

-- the pools of so many departures, and of the arrivals that are made
abbrev pub ArePools : Ground → Passed → Arrivals → Type 0
ArePools g p a = IsPassing g.net.now g.base g.resource p.walks p.pools a.made.items
    a.pools.items

-- what was made of the arrivals stays made, and as it was
abbrev pub Stay : Arrivals → Arrivals → Type 0
Stay old new = HaveStayed old.made.items old.pools.items new.made.items new.pools.items

-- the pool of the arrival at a place, from those of so many departures
abbrev pub IsPoolAt : Ground → Passed → ℕ → List (PairingVector × LabelWalk) → Type 0
IsPoolAt g p place = IsArrivalPool g.net.now g.positions.now g.resource p.walks p.pools place

-- a pass stands so: its pools, and its slides over those of arrivals
pub record Stands (g : Ground) (p : Passing) : Type 0 where
  pub pools : ArePools g p.passed p.arrivals
  pub slides : AreUnderWay g.net.now p.passed.walks p.arrivals.made.items p.arrivals.pools.items
      p.slides

-- all departures are passed
abbrev pub HasPassedAll : Ground → Passed → Type 0
HasPassedAll g p = HasPassed g.net.now g.base g.resource p.walks p.pools

-- a pass over a network, of a base and under its resource with a duty to spare, has left this
pub record IsLeft (net : Net) (base : List ℕ) (full : AnchoredResource) (p : Passed) : Type 0 where
  pub own : Ground
  pub is_ground : IsGround own
  pub own_net : own.net.now ≡ net
  pub own_base : own.base ≡ base
  pub own_resource : own.resource ≡ record full { max_duties = full.max_duties - 1 }
  pub all : HasPassedAll own p
