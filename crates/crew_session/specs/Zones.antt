-- The zones of airports, and the clocks that they give.
use Rattle.std.specs.Prelude.{◌-ℤ◌, ℕ, ℤ, pos, nat_le, List, Option, Some, None, option_map, if◌then◌else◌}
use Rattle.std.specs.FinMap as map
use Rattle.jiff_tz.specs.PosixText.{TzText}
use Rattle.crew_clocks.specs.Zone.{clock_of}
use Rattle.crew_rules.specs.declared.settings.Settings.{Settings}
use Rattle.crew_flights.specs.Codes.{code_cmp}
use Rattle.crew_flights.specs.declared.edit.Edit.{Edit}
use Rattle.crew_flights.specs.declared.edit.Edit.TheVariants as edit
use Rattle.crew_records.specs.declared.fault.RecordFault.{RecordFault}
use Rattle.crew_records.specs.declared.fault.RecordFault.TheVariants.{ZoneExists, TooManyZones}

abbrev pub Zones : Type 0
Zones = map.FinMap code_cmp TzText

-- zones in order of airport, as a map
abbrev pub zones_from : List (List ℕ × TzText) → Zones
zones_from zones = map.from_sorted zones

-- why a zone for an airport is refused: an airport has one zone, and 2,000 airports have one
abbrev pub zone_fault : Zones → List ℕ → Option RecordFault
zone_fault zones code =
    if map.contains_key zones code then Some ZoneExists
    else (if nat_le 2_000 (map.len zones) then Some TooManyZones else None)

-- the clock, in a zone, at the report of a duty that begins with this departure
abbrev pub report_clock : Settings → ℤ → TzText → ℕ
report_clock s dep zone = clock_of zone (dep -ℤ pos s.lead)

-- the same at an airport, if it has a zone
abbrev pub clock_at : Settings → Zones → List ℕ → ℤ → Option ℕ
clock_at s zones from dep = option_map (report_clock s dep) (map.get zones from)

-- a flight, once its report clock is known
abbrev pub flight_with : ℕ → List ℕ → List ℕ → ℤ → ℤ → ℤ → ℕ → Edit
flight_with id from to dep arr price clock = edit.AddFlight (record {
  id = id;
  from = from;
  to = to;
  dep = dep;
  arr = arr;
  report_clock = clock;
  price = price;
})
