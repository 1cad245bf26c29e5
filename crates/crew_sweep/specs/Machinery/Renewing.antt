-- Where a pass stands that keeps what an earlier one has.
use Rattle.std.specs.Prelude.{◌≡◌, ◌<◌, ◌+◌, ◌-◌, ◌⊎◌, ℕ, Bool, true, false, List, Option, [], Some, get_or, length, map, slice_get}
use Rattle.crew_anchor.specs.declared.resource.AnchoredResource.{AnchoredResource}
use Rattle.crew_carry.specs.Twins.{AreTwins, Twins}
use Rattle.crew_net.specs.Events.{AreEvents, IsWindow, arrival_cmp, departure_cmp}
use Rattle.crew_net.specs.Machinery.Numbered.{arrival_place, departure_place}
use Rattle.crew_net.specs.Nets.{AreByReport, Net}
use Rattle.crew_net.specs.Positions.{ArePositions, in_order}
use Rattle.crew_net.specs.declared.window.Window.{Window}
use Rattle.crew_pairing.specs.Duties.{RiseByKey}
use Rattle.crew_pairing.specs.Events.{arrival_of, departure_of, may_wait}
use Rattle.crew_pairing.specs.Keys.{walk_at_most}
use Rattle.crew_pairing.specs.Legs.{Leg}
use Rattle.crew_pairing.specs.declared.duty.Duty.{Duty}
use Rattle.crew_pairing.specs.declared.events.Arrival.{Arrival}
use Rattle.crew_pairing.specs.declared.events.Departure.{Departure}
use Rattle.crew_pairing.specs.declared.vector.PairingVector.{PairingVector}
use Rattle.crew_pool.specs.Counted.{AreCounted}
use Rattle.crew_pool.specs.LabelWalks.{shown}
use Rattle.crew_pool.specs.Ranks.{AreRanked}
use Rattle.crew_pool.specs.declared.label_walk.LabelWalk.{LabelWalk}
use Rattle.crew_resource.specs.Events.{Arriving, Views}
use Rattle.crew_resource.specs.Labels.{IsLocal}
use Rattle.crew_resource.specs.Members.{Member}
use Rattle.crew_sweep.specs.Machinery.Kept.{keyed_pools, sparing_of}
use Rattle.crew_sweep.specs.Machinery.Numbered.{AreLocal}
use Rattle.crew_sweep.specs.Machinery.Passing.{AreLabels, IsSealed, passed_network}
use Rattle.crew_sweep.specs.Sweeps.{BaseSweep, keyed}
use Rattle.crew_vector.specs.Dominance.{is_at_most}

-- two lists of labels have the same ones
abbrev pub HaveSame : List (PairingVector × List (List Leg)) → List (PairingVector × List (List Leg))
    → Type 0
HaveSame now old = (l : PairingVector × List (List Leg))
    → (Member now l → Member old l) × (Member old l → Member now l)

-- the pool of the duty's departure has the labels that it had
abbrev pub HasSameLabels : BaseSweep → Net → List (List ℕ)
    → List (List (PairingVector × LabelWalk)) → Duty → Type 0
HasSameLabels old net walks pools d = HaveSame
    (get_or (map (keyed net walks) pools) (departure_place (in_order net) (departure_of d)) [])
    (get_or (keyed_pools old) (departure_place (in_order old.net) (departure_of d)) [])

-- what is undominated of the labels that arrive at a place
abbrev pub Arrived : Net → List ℕ → AnchoredResource
    → List (List (PairingVector × List (List Leg))) → ℕ → List (PairingVector × List (List Leg))
    → Type 0
Arrived net base r pools place labels = IsLocal is_at_most walk_at_most
    (Arriving (passed_network net base r) (Views (passed_network net base r) pools) place) labels

-- the arrival at a place and the old one at another are one event, nothing more will arrive there,
-- and it shows what it showed
pub record ShowsSame (old : BaseSweep) (net : Net) (walks : List (List ℕ))
    (pools : List (List (PairingVector × LabelWalk))) (p q : ℕ) : Type 0 where
  pub event : Arrival
  pub at : slice_get net.arrivals p ≡ Some event
  pub old_at : slice_get old.net.arrivals q ≡ Some event
  pub sealed : IsSealed net (length pools) p
  pub labels : List (PairingVector × List (List Leg))
  pub now : Arrived net old.base (sparing_of old) (map (keyed net walks) pools) p labels
  pub was : Arrived old.net old.base (sparing_of old) (keyed_pools old) q labels

-- what arrives where no change is marked comes from pools that have the labels that they had, and
-- an arrival that was seen to be like an old one shows what that showed
pub record IsRenewing (old : BaseSweep) (net : Net) (walks : List (List ℕ))
    (pools : List (List (PairingVector × LabelWalk))) (changed : List Bool)
    (alike : List (Option ℕ)) : Type 0 where
  pub long : length changed ≡ length net.arrivals
  pub same : (p : ℕ) → get_or changed p true ≡ false → (d : Duty) → Member net.duties d
      → arrival_place net.arrivals (arrival_of d) ≡ p
      → departure_place (in_order net) (departure_of d) < length pools
      → HasSameLabels old net walks pools d
  pub alike_long : length alike ≡ length net.arrivals
  pub shows : (p q : ℕ) → slice_get alike p ≡ Some (Some q) → ShowsSame old net walks pools p q

-- the arrival at a place has the duties of the old one at another and no change is marked, or it was
-- seen to be like that
abbrev pub IsAsItWas : Twins → List Bool → List (Option ℕ) → ℕ → ℕ → Type 0
IsAsItWas t changed alike p q =
    ((get_or changed p true ≡ false) × (slice_get t.arrivals p ≡ Some (Some q)))
    ⊎ (slice_get alike p ≡ Some (Some q))

-- a window holds what it held
pub record IsWindowKept (t : Twins) (changed : List Bool) (alike : List (Option ℕ))
    (now old : Window) : Type 0 where
  pub long : now.end - now.from ≡ old.end - old.from
  pub kept : (k : ℕ) → k < now.end - now.from
      → IsAsItWas t changed alike (now.from + k) (old.from + k)

-- a network whose events are laid out
pub record IsLaid (net : Net) : Type 0 where
  pub departs : AreEvents departure_of departure_cmp net.duties net.departures
  pub arrives : AreEvents arrival_of arrival_cmp net.duties net.arrivals
  pub ordered : AreByReport net.departures net.by_report

-- an earlier sweep of the same base at the same price, with what its network and this one have alike
pub record IsEarlierPass (old : BaseSweep) (net : Net) (t : Twins) (positions : List ℕ) (base : List ℕ)
    (r : AnchoredResource) : Type 0 where
  pub settings : old.net.settings ≡ net.settings
  pub laid : IsLaid old.net
  pub rise : RiseByKey old.net.duties
  pub twins : AreTwins old.net net t
  pub are_positions : ArePositions old.net positions
  pub own_base : base ≡ old.base
  pub resource : r ≡ sparing_of old
  pub long : length old.pools ≡ length old.net.by_report
  pub local : AreLocal (passed_network old.net old.base (sparing_of old)) (length old.pools)
      (keyed_pools old)
  pub spared : (labels : List (PairingVector × LabelWalk)) → Member old.pools labels
      → AreLabels (sparing_of old) (length old.net.duties) old.walks labels

-- the old departure at a position stands for that at a place, and the window of these holds what
-- it held
pub record IsKeptPosition (old : BaseSweep) (net : Net) (t : Twins) (changed : List Bool)
    (alike : List (Option ℕ)) (place : ℕ) (position : ℕ) : Type 0 where
  pub event : Departure
  pub at : slice_get net.departures place ≡ Some event
  pub old_at : slice_get (in_order old.net) position ≡ Some event
  pub window : Window
  pub is_window : IsWindow (λ x. may_wait net.settings x event) net.arrivals window
  pub old_window : Window
  pub is_old_window : IsWindow (λ x. may_wait old.net.settings x event) old.net.arrivals old_window
  pub kept : IsWindowKept t changed alike window old_window

-- the pool that the old departure at a position has, over the walks of another network
pub record IsPositionPool (old : BaseSweep) (net : Net) (walks : List (List ℕ)) (position : ℕ)
    (pool : List (PairingVector × LabelWalk)) : Type 0 where
  pub labels : keyed net walks pool ≡ keyed old.net old.walks (get_or old.pools position [])
  pub counts : AreCounted (λ (v : PairingVector). v.duties) walks true pool
  pub ranked : AreRanked (length net.duties) (map (shown walks) pool)

-- the pool of such a departure, as it was
pub record IsKeptPool (old : BaseSweep) (net : Net) (t : Twins) (changed : List Bool)
    (alike : List (Option ℕ)) (walks : List (List ℕ)) (place : ℕ) (pool : List (PairingVector × LabelWalk)) : Type 0 where
  pub position : ℕ
  pub stands : IsKeptPosition old net t changed alike place position
  pub has : IsPositionPool old net walks position pool
