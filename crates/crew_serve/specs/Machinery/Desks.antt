-- What a desk keeps.
use Rattle.std.specs.Prelude.{ℕ, List, Option}
use Rattle.jiff_tz.specs.PosixText.{TzText}
use Rattle.crew_log.specs.Logs.{Seat}
use Rattle.crew_rules.specs.declared.settings.Settings.{Settings}
use Rattle.crew_serve.specs.Clients.{Client}
use Rattle.crew_serve.specs.declared.waiting.Waiting.{Waiting}
use Rattle.crew_session.specs.Zones.{zones_from}
use Rattle.crew_version.specs.Versions.{Snapshot}

-- the settings of the service, and where the client stands, its zones in order of airport
pub record AtDesk : Type 0 where
  pub settings : Settings
  pub airports : List (List ℕ × TzText)
  pub version : Snapshot
  pub seat : Option Seat
  pub waiting : List Waiting

abbrev pub client_of : AtDesk → Client
client_of desk = record {
  zones = zones_from desk.airports;
  version = desk.version;
  seat = desk.seat;
  waiting = desk.waiting;
}
