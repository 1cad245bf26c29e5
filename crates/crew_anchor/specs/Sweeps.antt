-- The time-space network of a base with anchored labels.
use Rattle.std.specs.Prelude.{ℕ, ℤ, List, [], ◌∷◌, ◌++◌, map, cond, Some, None}
use Rattle.std.specs.Ordering.{eq_by_cmp}
use Rattle.crew_pairing.specs.Events.{arrival_of, departure_of, may_wait}
use Rattle.crew_pairing.specs.declared.duty.Duty.{Duty}
use Rattle.crew_pairing.specs.declared.events.Arrival.{Arrival}
use Rattle.crew_pairing.specs.declared.events.Departure.{Departure}
use Rattle.crew_pairing.specs.Legs.{Leg}
use Rattle.crew_flights.specs.Codes.{code_cmp}
use Rattle.crew_resource.specs.Events.{Network}
use Rattle.crew_rules.specs.declared.settings.Settings.{Settings}
use Rattle.crew_pairing.specs.declared.vector.PairingVector.{PairingVector}
use Rattle.crew_anchor.specs.Anchors.{shown}
use Rattle.crew_anchor.specs.Stages.{anchored_board, anchored_idle, anchored_resource}

-- the base's network, where waiting changes nothing
abbrev pub anchored_network : Settings → List ℕ → ℤ → List Duty → Network Duty PairingVector (List
    (List Leg)) Departure Arrival
anchored_network s base price duties = record {
  known = duties;
  leaves = departure_of;
  arrives = arrival_of;
  window = may_wait s;
  none = [];
  more = λ w d. w ++ d.key ∷ [];
  idle = λ g. cond (eq_by_cmp code_cmp g.airport base) (Some (anchored_idle
      (anchored_resource s price) g.report)) None;
  wait = λ v x g. v;
  board = anchored_board (anchored_resource s price);
}

-- labels as of a minute
abbrev pub shown_labels : ℕ → ℤ → List (PairingVector × List (List Leg)) → List (PairingVector
    × List (List Leg))
shown_labels rate minute labels = map (λ l. (shown rate minute l.0, l.1)) labels
