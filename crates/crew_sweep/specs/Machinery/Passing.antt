-- Where a pass over the departures stands.
use Rattle.std.specs.Prelude.{◌≡◌, ◌≤◌, ◌<◌, ◌-◌, ◌++◌, ℕ, Bool, true, false, IsPermutation, List, [], Some, drop, get_or, length, map, slice_get, take}
use Rattle.crew_anchor.specs.Machinery.Bounds.{is_ready}
use Rattle.crew_anchor.specs.Stages.{anchored_board}
use Rattle.crew_anchor.specs.declared.resource.AnchoredResource.{AnchoredResource}
use Rattle.crew_net.specs.Events.{AreEvents, arrival_cmp, arrives_at, departure_cmp}
use Rattle.crew_net.specs.Machinery.Moments.{IsReal}
use Rattle.crew_net.specs.Machinery.Numbered.{arrival_place, departure_place}
use Rattle.crew_net.specs.Nets.{AreByReport, Net}
use Rattle.crew_net.specs.Positions.{ArePositions, in_order}
use Rattle.crew_net.specs.Ranks.{ranks_where}
use Rattle.crew_net.specs.declared.window.Window.{Window}
use Rattle.crew_pairing.specs.Duties.{RiseByKey}
use Rattle.crew_pairing.specs.Events.{IsSound, arrival_of, departure_of}
use Rattle.crew_pairing.specs.Keys.{walk_at_most}
use Rattle.crew_pairing.specs.Legs.{Leg}
use Rattle.crew_pairing.specs.declared.duty.Duty.{Duty}
use Rattle.crew_pairing.specs.declared.events.Arrival.{Arrival}
use Rattle.crew_pairing.specs.declared.events.Departure.{Departure}
use Rattle.crew_pairing.specs.declared.vector.PairingVector.{PairingVector}
use Rattle.crew_pool.specs.Counted.{AreCounted}
use Rattle.crew_pool.specs.LabelWalks.{IsPoolOf, shown}
use Rattle.crew_pool.specs.declared.label_walk.LabelWalk.{LabelWalk}
use Rattle.crew_resource.specs.Events.{Network, Swept, labelled}
use Rattle.crew_resource.specs.Members.{Each, Member}
use Rattle.crew_carry.specs.crew_step.Pools.{boarded, waiting}
use Rattle.crew_sweep.specs.Machinery.Numbered.{idle_at, numbered}
use Rattle.crew_sweep.specs.Sweeps.{keyed}
use Rattle.crew_vector.specs.Dominance.{is_at_most}

-- a base's network with its departures in order of report, under a resource
abbrev pub passed_network : Net → List ℕ → AnchoredResource
    → Network Duty PairingVector (List (List Leg)) ℕ ℕ
passed_network net base r = numbered net.settings r base net.duties (in_order net) net.arrivals

-- a label as it is shown: of duties that have ranks, no more than the resource's most, and within
-- the bound for so many
pub record IsLabel (r : AnchoredResource) (count : ℕ) (l : PairingVector × List ℕ) : Type 0 where
  pub ranked : Each (λ rank. rank < count) l.1
  pub few : length l.1 ≤ r.max_duties
  pub ready : is_ready r (length l.1) l.0

abbrev pub AreLabels : AnchoredResource → ℕ → List (List ℕ) → List (PairingVector × LabelWalk)
    → Type 0
AreLabels r count walks labels = (l : PairingVector × LabelWalk) → Member labels l
    → IsLabel r count (shown walks l)

-- the pool of the arrival at a place is made
abbrev pub IsMade : List Bool → ℕ → Type 0
IsMade made place = get_or made place false ≡ true

-- after so many departures: the pools of these, and of the arrivals that are made
pub record IsPassing (net : Net) (base : List ℕ) (r : AnchoredResource) (walks : List (List ℕ))
    (pools : List (List (PairingVector × LabelWalk))) (made : List Bool)
    (held : List (List (PairingVector × LabelWalk))) : Type 0 where
  pub swept : Swept (passed_network net base r) is_at_most walk_at_most (length pools)
      (map (keyed net walks) pools) (IsMade made) (λ x. get_or (map (keyed net walks) held) x [])
  pub marks : length made ≡ length net.arrivals
  pub long : length held ≡ length net.arrivals
  pub settled : (labels : List (PairingVector × LabelWalk)) → Member held labels
      → IsPoolOf is_at_most (map (shown walks) labels) (map (shown walks) labels)
  pub whole : (labels : List (PairingVector × LabelWalk)) → Member pools labels
      → AreCounted (λ (v : PairingVector). v.duties) walks true labels
  pub pending : (labels : List (PairingVector × LabelWalk)) → Member held labels
      → AreCounted (λ (v : PairingVector). v.duties) walks false labels
  pub pooled : (labels : List (PairingVector × LabelWalk)) → Member pools labels
      → AreLabels r (length net.duties) walks labels
  pub arrived : (labels : List (PairingVector × LabelWalk)) → Member held labels
      → AreLabels r (length net.duties) walks labels

-- the pool is that of the departure at a place, over what stands in its window
abbrev pub IsPooled : Net → List ℕ → AnchoredResource → List (List ℕ) → List (List ℕ) → ℕ → Window
    → List (List (PairingVector × LabelWalk)) → List (PairingVector × LabelWalk) → Type 0
IsPooled net base r before after place w held pool = (g : Departure)
    → slice_get net.departures place ≡ Some g
    → IsPoolOf is_at_most (waiting before (take (w.end - w.from) (drop w.from held))
    (idle_at r base (Some g))) (map (shown after) pool)

-- the pool is that of the departure at a place, over what waits for it
abbrev pub IsPooledOver : Net → List ℕ → AnchoredResource → List (List ℕ) → List (List ℕ) → ℕ
    → List (PairingVector × LabelWalk) → List (PairingVector × LabelWalk) → Type 0
IsPooledOver net base r before after place labels pool = (g : Departure)
    → slice_get net.departures place ≡ Some g → (candidates : List (PairingVector × List ℕ))
    → IsPoolOf is_at_most candidates (map (shown before) labels)
    → IsPoolOf is_at_most (candidates ++ labelled (idle_at r base (Some g)) [])
    (map (shown after) pool)

-- after so many departures nothing more will arrive there
abbrev pub IsSealed : Net → ℕ → ℕ → Type 0
IsSealed net passed place = (d : Duty) → Member net.duties d
    → arrival_place net.arrivals (arrival_of d) ≡ place
    → departure_place (in_order net) (departure_of d) < passed

-- after so many departures nothing more will arrive at any of these places
abbrev pub AreSealed : Net → ℕ → List ℕ → Type 0
AreSealed net passed places = Each (λ place. (place < length net.arrivals) × IsSealed net passed place)
    places

-- the pool is that of the arrival at a place: what is undominated of the labels that board the
-- duties which arrive there
pub record IsArrivalPool (net : Net) (positions : List ℕ) (r : AnchoredResource)
    (walks : List (List ℕ)) (pools : List (List (PairingVector × LabelWalk))) (place : ℕ)
    (pool : List (PairingVector × LabelWalk)) : Type 0 where
  pub ranks : List ℕ
  pub all : (x : Arrival) → slice_get net.arrivals place ≡ Some x
      → IsPermutation (ranks_where (arrives_at x) net.duties) ranks
  pub local : IsPoolOf is_at_most (boarded walks (anchored_board r) net.duties positions pools ranks)
      (map (shown walks) pool)
  pub counts : AreCounted (λ (v : PairingVector). v.duties) walks false pool

-- what a window holds is made
abbrev pub AreMade : List Bool → Window → Type 0
AreMade made w = (place : ℕ) → w.from ≤ place → place < w.end → IsMade made place

-- what was made stays made, and as it was
abbrev pub HaveStayed : List Bool → List (List (PairingVector × LabelWalk)) → List Bool
    → List (List (PairingVector × LabelWalk)) → Type 0
HaveStayed made held made' held' = (place : ℕ) → IsMade made place → IsMade made' place
    × (get_or held' place [] ≡ get_or held place [])

-- a network over which a pass may go: its events, its duties, and the positions of their departures
pub record IsPassable (net : Net) (positions : List ℕ) : Type 0 where
  pub departs : AreEvents departure_of departure_cmp net.duties net.departures
  pub arrives : AreEvents arrival_of arrival_cmp net.duties net.arrivals
  pub ordered : AreByReport net.departures net.by_report
  pub real : (g : Departure) → Member net.departures g → IsReal g.report
  pub rise : RiseByKey net.duties
  pub sound : (d : Duty) → Member net.duties d → IsSound d
  pub few : length net.duties ≤ 200_000
  pub are_positions : ArePositions net positions

-- all departures are passed
pub record HasPassed (net : Net) (base : List ℕ) (r : AnchoredResource) (walks : List (List ℕ))
    (pools : List (List (PairingVector × LabelWalk))) : Type 0 where
  pub made : List Bool
  pub held : List (List (PairingVector × LabelWalk))
  pub all : length pools ≡ length net.by_report
  pub passing : IsPassing net base r walks pools made held
