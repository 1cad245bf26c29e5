-- One pass over the departures of a base's network, in order of time: its pools, and the fronts
-- that these show. Networks of duties along time are described in Barnhart et al. 2003, "Airline
-- crew scheduling".
use Rattle.std.specs.Prelude.{◌≡◌, ◌≤◌, ℕ, ℤ, List, [], get_or, length, map}
use Rattle.crew_anchor.specs.Sweeps.{anchored_network, shown_labels}
use Rattle.crew_carry.specs.Twins.{AreTwins, Twins}
use Rattle.crew_flights.specs.Timetable.{IsBasePrice, IsSound, Timetable}
use Rattle.crew_net.specs.Machinery.Numbered.{departure_place}
use Rattle.crew_net.specs.Nets.{AreArrivalPlaces, Net}
use Rattle.crew_net.specs.Positions.{ArePositions, in_order}
use Rattle.crew_pairing.specs.Duties.{AreDuties, RiseByKey, flights_of}
use Rattle.crew_pairing.specs.Events as Events
use Rattle.crew_pairing.specs.Events.{departure_of}
use Rattle.crew_pairing.specs.Legs.{Leg}
use Rattle.crew_pairing.specs.Pairings.{IsDuty}
use Rattle.crew_pairing.specs.declared.duty.Duty.{Duty}
use Rattle.crew_pairing.specs.declared.vector.PairingVector.{PairingVector}
use Rattle.crew_pool.specs.LabelWalks.{shown}
use Rattle.crew_pool.specs.Ranks.{by_key}
use Rattle.crew_pool.specs.declared.label_walk.LabelWalk.{LabelWalk}
use Rattle.crew_resource.specs.Events.{view}
use Rattle.crew_resource.specs.Members.{Member}
use Rattle.crew_vector.specs.Fronts.{IsFrontAt}

-- the pools of a base, one for each departure in order of report: labels as of a common instant,
-- with the places of their walks
pub record BaseSweep : Type 0 where
  pub net : Net
  pub base : List ℕ
  pub price : ℤ
  pub walks : List (List ℕ)
  pub pools : List (List (PairingVector × LabelWalk))

-- a network over which a sweep may go, with the position of each duty's departure by rank
pub record IsSweepable (net : Net) (by_rank : List ℕ) : Type 0 where
  pub sound : (d : Duty) → Member net.duties d → Events.IsSound d
  pub rise : RiseByKey net.duties
  pub few : length net.duties ≤ 200_000
  pub positions : ArePositions net by_rank

-- labels with the keys of their walks
abbrev pub keyed : Net → List (List ℕ) → List (PairingVector × LabelWalk)
    → List (PairingVector × List (List Leg))
keyed net walks labels = by_key net.duties (map (shown walks) labels)

-- the pool of a duty's departure
abbrev pub pool_at : BaseSweep → Duty → List (PairingVector × LabelWalk)
pool_at b d = get_or b.pools (departure_place (in_order b.net) (departure_of d)) []

-- the front that the pools show at a duty: the labels that board it, as of its release
abbrev pub front_at : BaseSweep → Duty → List (PairingVector × List (List Leg))
front_at b d = shown_labels b.net.settings.trip_rig d.release
    (view (anchored_network b.net.settings b.base b.price b.net.duties) d
    (keyed b.net b.walks (pool_at b d)))

-- at each legal duty it shows the duty's front
abbrev pub ShowsFronts : Timetable → BaseSweep → Type 0
ShowsFronts t b = (d : Duty) → IsDuty b.net.settings (flights_of t) d
    → IsFrontAt b.net.settings t b.base b.price d (front_at b d)

-- the sweep of a base at its price over a network: at each legal duty of each timetable that the
-- network is of it shows the duty's front
pub record IsSwept (over : Net) (priced : List ℕ × ℤ) (b : BaseSweep) : Type 0 where
  pub net : b.net ≡ over
  pub base : (b.base, b.price) ≡ priced
  pub right : (t : Timetable) → IsSound t → AreDuties over.settings t over.duties → ShowsFronts t b

-- an earlier sweep beside which one over a network may go: with the position of each departure of
-- its own duties by rank, what its network and this one have alike, and the place of each arrival of
-- this one's duties by rank
pub record IsEarlier (old : BaseSweep) (old_by_rank : List ℕ) (alike : Twins) (net : Net)
    (arriving : List ℕ) : Type 0 where
  pub price : IsBasePrice old.price
  pub settings : old.net.settings ≡ net.settings
  pub earlier_positions : ArePositions old.net old_by_rank
  pub twins : AreTwins old.net net alike
  pub places : AreArrivalPlaces net arriving
