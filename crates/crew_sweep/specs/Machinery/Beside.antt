-- Where a pass stands that goes beside an earlier one.
use Rattle.std.specs.Prelude.{◌≡◌, ℕ, List, [], false, get_or, true}
use Rattle.crew_carry.specs.Carried.{IsCarried}
use Rattle.crew_net.specs.Machinery.Numbered.{departure_place}
use Rattle.crew_net.specs.Nets.{AreArrivalPlaces}
use Rattle.crew_net.specs.Positions.{in_order}
use Rattle.crew_pairing.specs.declared.events.Departure.{Departure}
use Rattle.crew_pairing.specs.declared.vector.PairingVector.{PairingVector}
use Rattle.crew_pool.specs.Counted.{AreCounted}
use Rattle.crew_pool.specs.declared.label_walk.LabelWalk.{LabelWalk}
use Rattle.crew_resource.specs.Members.{Member}
use Rattle.crew_sweep.specs.Machinery.Grounds.{IsGround, Stands}
use Rattle.crew_sweep.specs.Machinery.Kept.{keyed_pools, sparing_of}
use Rattle.crew_sweep.specs.Machinery.Renewing.{Arrived, HaveSame, IsEarlierPass, IsRenewing}
use Rattle.crew_sweep.specs.Sweeps.{keyed}
use Rattle.crew_sweep.specs.declared.earlier.Earlier.{Earlier}
use Rattle.crew_sweep.specs.declared.ground.Ground.{Ground}
use Rattle.crew_sweep.specs.declared.renewal.Renewal.{Renewal}

-- an earlier sweep beside which a pass may go
pub record IsBeside (e : Earlier) (g : Ground) : Type 0 where
  pub earlier : IsEarlierPass e.sweep.now g.net.now e.twins.now e.positions.now g.base g.resource
  pub places : AreArrivalPlaces g.net.now e.places.now
  pub ground : IsGround e.ground
  pub own_net : e.ground.net.now ≡ e.sweep.now.net
  pub own_base : e.ground.base ≡ e.sweep.now.base
  pub own_resource : e.ground.resource ≡ sparing_of e.sweep.now
  pub whole : (labels : List (PairingVector × LabelWalk)) → Member e.sweep.now.pools labels
      → AreCounted (λ (v : PairingVector). v.duties) e.sweep.now.walks true labels

-- what an old arrival showed, with a duty after each label's walk
pub record ShowsOld (e : Earlier) (place : ℕ) (labels : List (PairingVector × LabelWalk)) :
    Type 0 where
  pub local : Arrived e.sweep.now.net e.sweep.now.base (sparing_of e.sweep.now)
      (keyed_pools e.sweep.now) place (keyed e.sweep.now.net e.sweep.now.walks labels)
  pub counts : AreCounted (λ (v : PairingVector). v.duties) e.sweep.now.walks false labels

-- a pool has the labels that a departure's had
abbrev pub HasOldLabels : Earlier → Ground → List (List ℕ) → Departure
    → List (PairingVector × LabelWalk) → Type 0
HasOldLabels e g walks departure labels = HaveSame (keyed g.net.now walks labels)
    (get_or (keyed_pools e.sweep.now) (departure_place (in_order e.sweep.now.net) departure) [])

-- such a pass stands so: as any does, with its marks and what it has carried over
pub record StandsBeside (e : Earlier) (g : Ground) (r : Renewal) : Type 0 where
  pub passing : Stands g r.passing
  pub marks : IsRenewing e.sweep.now g.net.now r.passing.passed.walks r.passing.passed.pools
      r.changed.items r.alike.items
  pub carried : IsCarried e.twins.now.ranks e.sweep.now.walks r.passing.passed.walks r.carrier
