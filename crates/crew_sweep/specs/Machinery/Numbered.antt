-- The network of a base with its events by number, as a sweep goes over them: departures by their
-- places in the order in which it does, arrivals by theirs in the network.
use Rattle.std.specs.Prelude.{◌<◌, ℕ, Bool, false, cond, List, [], ◌∷◌, ◌++◌, Option, Some, None, get_or, slice_get}
use Rattle.std.specs.Ordering.{eq_by_cmp}
use Rattle.crew_anchor.specs.Stages.{anchored_board, anchored_idle}
use Rattle.crew_anchor.specs.declared.resource.AnchoredResource.{AnchoredResource}
use Rattle.crew_flights.specs.Codes.{code_cmp}
use Rattle.crew_net.specs.Machinery.Numbered.{arrival_place, departure_place}
use Rattle.crew_pairing.specs.Events.{arrival_of, departure_of, may_wait}
use Rattle.crew_pairing.specs.Keys.{walk_at_most}
use Rattle.crew_pairing.specs.Legs.{Leg}
use Rattle.crew_pairing.specs.declared.duty.Duty.{Duty}
use Rattle.crew_pairing.specs.declared.events.Arrival.{Arrival}
use Rattle.crew_pairing.specs.declared.events.Departure.{Departure}
use Rattle.crew_pairing.specs.declared.vector.PairingVector.{PairingVector}
use Rattle.crew_resource.specs.Events.{FromFronts, Network, Views}
use Rattle.crew_resource.specs.Labels.{IsLocal}
use Rattle.crew_rules.specs.declared.settings.Settings.{Settings}
use Rattle.crew_vector.specs.Dominance.{is_at_most}

abbrev pub window_at : Settings → Option Arrival → Option Departure → Bool
window_at s None g = false
window_at s (Some x) None = false
window_at s (Some x) (Some g) = may_wait s x g

abbrev pub idle_at : AnchoredResource → List ℕ → Option Departure → Option PairingVector
idle_at r base None = None
idle_at r base (Some g) = cond (eq_by_cmp code_cmp g.airport base) (Some (anchored_idle r g.report))
    None

-- labels as of a common instant, so waiting changes nothing
abbrev pub numbered : Settings → AnchoredResource → List ℕ → List Duty → List Departure
    → List Arrival → Network Duty PairingVector (List (List Leg)) ℕ ℕ
numbered s r base duties departures arrivals = record {
  known = duties;
  leaves = λ d. departure_place departures (departure_of d);
  arrives = λ d. arrival_place arrivals (arrival_of d);
  window = λ x g. window_at s (slice_get arrivals x) (slice_get departures g);
  none = [];
  more = λ w d. w ++ d.key ∷ [];
  idle = λ g. idle_at r base (slice_get departures g);
  wait = λ v x g. v;
  board = anchored_board r;
}

-- the pools of so many departures: each is what the views of the pools leave that it may wait on
abbrev pub AreLocal : Network Duty PairingVector (List (List Leg)) ℕ ℕ → ℕ
    → List (List (PairingVector × List (List Leg))) → Type 0
AreLocal net count pools = (i : ℕ) → i < count
    → IsLocal is_at_most walk_at_most (FromFronts net (Views net pools) i) (get_or pools i [])
