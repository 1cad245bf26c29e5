-- What a pass over the departures of a base shows: its pools, and the fronts of its duties by key.
use Rattle.std.specs.Prelude.{◌≡◌, ◌<◌, ◌++◌, ℕ, Bool, cond, List, [], ◌∷◌, Some, None, get_or, length, map, slice_get}
use Rattle.std.specs.Ordering.{eq_by_cmp}
use Rattle.crew_flights.specs.Codes.{code_cmp}
use Rattle.crew_forgetful.specs.Sweeps.{IsCoveredPass}
use Rattle.crew_label.specs.Tables.{Leaving, leads_in, trail_in}
use Rattle.crew_label.specs.Walks.{Leads, shown, walk_of}
use Rattle.crew_label.specs.declared.label.Label.{Label}
use Rattle.crew_net.specs.Nets.{Net}
use Rattle.crew_pairing.specs.Events.{arrival_of, departure_of, may_wait}
use Rattle.crew_pairing.specs.Keys.{walk_at_most}
use Rattle.crew_pairing.specs.Legs.{Leg}
use Rattle.crew_pairing.specs.declared.duty.Duty.{Duty}
use Rattle.crew_pairing.specs.declared.events.Arrival.{Arrival}
use Rattle.crew_pairing.specs.declared.events.Departure.{Departure}
use Rattle.crew_pool.specs.Ranks.{by_key}
use Rattle.crew_resource.specs.Events.{Network}
use Rattle.crew_resource.specs.Members.{Each, Member}
use Rattle.crew_labelling.specs.Labellings.{Labelling}
use Rattle.crew_labelling.specs.Terms.{Terms}

-- the network, where duties leave, the pool of each departure in order of report, and the front of
-- each duty by rank
pub record BasePass (V : Type 0) : Type 0 where
  pub net : Net
  pub leaves : Leaving
  pub pools : List (List (Label V))
  pub fronts : List (List (Label V))

-- the entries of the front of a duty, their walks by rank
abbrev pub entries : {V : Type 0} → BasePass V → ℕ → List (V × List ℕ)
entries p rank = map (shown (trail_in p.leaves p.pools)) (get_or p.fronts rank [])

-- and by key
abbrev pub keyed_entries : {V : Type 0} → BasePass V → ℕ → List (V × List (List Leg))
keyed_entries p rank = by_key p.net.duties (entries p rank)

-- some pools cover what stands at their departures, and leave these fronts
pub record IsCoveredBy {V : Type 0} (le same : V → V → Bool)
    (network : Network Duty V (List (List Leg)) Departure Arrival) (p : BasePass V) : Type 0 where
  pub pools : Departure → List (V × List (List Leg))
  pub arrivals : Departure → Arrival → List (V × List (List Leg))
  pub fronts : Duty → List (V × List (List Leg))
  pub told : (rank : ℕ) (d : Duty) → slice_get p.net.duties rank ≡ Some d
      → fronts d ≡ keyed_entries p rank
  pub covered : IsCoveredPass network le same walk_at_most pools arrivals fronts

-- each duty has a front, whose labels lead to others, and have walks of duties
pub record AreTold {V : Type 0} (p : BasePass V) : Type 0 where
  pub long : length p.fronts ≡ length p.net.duties
  pub leading : (labels : List (Label V)) (l : Label V) → Member p.fronts labels → Member labels l
      → Leads (leads_in p.leaves p.pools) l.before
  pub ranked : (labels : List (Label V)) (l : Label V) → Member p.fronts labels → Member labels l
      → Each (λ rank. rank < length p.net.duties) (walk_of (trail_in p.leaves p.pools) l.before)

-- the duties and events of the terms' network, with the stages; walks are of duties by key
abbrev pub network_over : {V : Type 0} → Terms V
    → Network Duty V (List (List Leg)) Departure Arrival
network_over w = record {
  known = w.net.duties;
  leaves = departure_of;
  arrives = arrival_of;
  window = may_wait w.net.settings;
  none = [];
  more = λ k d. k ++ d.key ∷ [];
  idle = λ g. cond (eq_by_cmp code_cmp g.airport w.base) (Some (w.idle g)) None;
  wait = w.wait;
  board = w.board;
}

-- what a labelling shows
abbrev pub pass_of : {V : Type 0} → Terms V → Labelling V → BasePass V
pass_of w y = record {
  net = w.net;
  leaves = w.leaves;
  pools = y.departures;
  fronts = y.fronts;
}
