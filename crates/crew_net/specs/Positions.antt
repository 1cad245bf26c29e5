-- Positions: the places of departures among all departures of a network, in order of report.
use Rattle.std.specs.Prelude.{◌≡◌, ℕ, pos, List, [], Some, get_or, length, map, slice_get}
use Rattle.crew_net.specs.Nets.{Net}
use Rattle.crew_pairing.specs.Events.{departure_of}
use Rattle.crew_pairing.specs.declared.duty.Duty.{Duty}
use Rattle.crew_pairing.specs.declared.events.Departure.{Departure}

abbrev pub departure_at : List Departure → ℕ → Departure
departure_at departures place = get_or departures place (record { airport = []; report = pos 0 })

-- the departures of a network in order of report
abbrev pub in_order : Net → List Departure
in_order net = map (departure_at net.departures) net.by_report

-- the position of each duty's departure by rank: its place among all departures, in order of report
pub record ArePositions (net : Net) (positions : List ℕ) : Type 0 where
  pub long : length positions ≡ length net.duties
  pub exact : (rank : ℕ) (d : Duty) → slice_get net.duties rank ≡ Some d
      → slice_get (in_order net) (get_or positions rank 0) ≡ Some (departure_of d)
