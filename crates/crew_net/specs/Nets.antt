-- The network of the legal duties of a timetable, and what a contract sees of it.
use Rattle.std.specs.Prelude.{◌≡◌, ◌≤◌, ◌≤ℤ◌, ℕ, List, [], ◌∷◌, Option, Some, None, Vec, IsPermutation, get_or, length, map, slice_get}
use Rattle.std.specs.Global.{Global}
use Rattle.std.specs.FinMap as fin
use Rattle.std.specs.declared.cmp.Ordering.TheVariants.{Less}
use Rattle.std.specs.List.{flat_map, range_with_len}
use Rattle.crew_pairing.specs.Events.{arrival_of, departure_of}
use Rattle.crew_flights.specs.Codes.{code_cmp}
use Rattle.crew_flights.specs.Timetable.{Timetable}
use Rattle.crew_net.specs.Events.{AreEvents, arrival_cmp, departure_cmp}
use Rattle.crew_net.specs.Ranks.{ranks_where}
use Rattle.crew_net.specs.declared.node.Node.{Node}
use Rattle.crew_pairing.specs.Legs.{Leg}
use Rattle.crew_pairing.specs.Pairings.{may_stand_after}
use Rattle.crew_pairing.specs.declared.duty.Duty.{Duty}
use Rattle.crew_pairing.specs.declared.events.Arrival.{Arrival}
use Rattle.crew_pairing.specs.declared.events.Departure.{Departure}
use Rattle.crew_resource.specs.Members.{Each, Member}
use Rattle.crew_pairing.specs.crew_rules.declared.settings.Settings.{Settings}

-- the settings, the crew bases in order, the duties by key, and their events
pub record Net : Type 0 where
  pub settings : Settings
  pub bases : List (List ℕ)
  pub duties : List Duty
  pub departures : List Departure
  pub arrivals : List Arrival
  -- the places of all departures, in order of time
  pub by_report : List ℕ

-- the places of all departures, no report before a lesser one
pub record AreByReport (departures : List Departure) (places : List ℕ) : Type 0 where
  pub all : IsPermutation (range_with_len 0 (length departures)) places
  pub rising : (i j p q : ℕ) (g h : Departure) → i ≤ j → slice_get places i ≡ Some p
      → slice_get places j ≡ Some q → slice_get departures p ≡ Some g
      → slice_get departures q ≡ Some h → g.report ≤ℤ h.report

-- it is the network of these duties of a timetable
pub record IsNetOf (s : Settings) (t : Timetable) (ds : List Duty) (net : Net) : Type 0 where
  pub settings : net.settings ≡ s
  pub bases : net.bases ≡ fin.keys t.bases
  pub duties : net.duties ≡ ds
  pub departures : AreEvents departure_of departure_cmp ds net.departures
  pub arrivals : AreEvents arrival_of arrival_cmp ds net.arrivals
  pub by_report : AreByReport net.departures net.by_report

-- each base with each duty, by base and key
abbrev pub nodes_of : List (List ℕ) → List Duty → List Node
nodes_of bases duties = flat_map (λ b. map (λ d. record { base = b; key = d.key }) duties) bases

-- a duty of the network's, and a base of its
pub record IsNodeOf (net : Net) (node : Node) (d : Duty) : Type 0 where
  pub base : Member net.bases node.base
  pub duty : Member net.duties d
  pub key : d.key ≡ node.key

-- the ranks of the duties that may stand just before one, rising
abbrev pub ranks_before : Settings → List Duty → Duty → List ℕ
ranks_before s duties d = ranks_where (λ e. may_stand_after s e d) duties

-- the rank of a node's duty, and none where it isn't a node of the network
abbrev pub IsRank : Net → Node → Option ℕ → Type 0
IsRank net node None = (d : Duty) → IsNodeOf net node d → ⊥
IsRank net node (Some rank) = (d : Duty) × IsNodeOf net node d × (slice_get net.duties rank ≡ Some d)

-- the rank of the duty with a key, and none where no duty has it
abbrev pub IsRankOfKey : List Duty → List Leg → Option ℕ → Type 0
IsRankOfKey duties key None = (d : Duty) → Member duties d → d.key ≡ key → ⊥
IsRankOfKey duties key (Some rank) = (d : Duty) × (slice_get duties rank ≡ Some d) × (d.key ≡ key)

-- each base stands before all later ones
abbrev pub RiseByCode : List (List ℕ) → Type 0
RiseByCode [] = Unit {0}
RiseByCode (b ∷ bs) = Each (λ c. code_cmp b c ≡ Less) bs × RiseByCode bs

-- the duties just before a node's, of the same base, and none where it isn't a node of the network
abbrev pub ArePreds : Net → Node → Option (Vec ℕ Global) → Type 0
ArePreds net node None = (d : Duty) → IsNodeOf net node d → ⊥
ArePreds net node (Some ranks) = (d : Duty) × IsNodeOf net node d
    × (ranks.items ≡ ranks_before net.settings net.duties d)

-- the place of each duty's arrival, by rank
pub record AreArrivalPlaces (net : Net) (places : List ℕ) : Type 0 where
  pub long : length places ≡ length net.duties
  pub exact : (rank : ℕ) (d : Duty) → slice_get net.duties rank ≡ Some d
      → slice_get net.arrivals (get_or places rank 0) ≡ Some (arrival_of d)
