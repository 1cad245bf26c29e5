-- What the engine over a service holds.
use Rattle.std.specs.Prelude.{◌≡◌, ◌≤◌, ℕ, List, Result, Ok, Err, length, map}
use Rattle.boxcar.specs.Table.{Where}
use Rattle.crew_flights.specs.declared.entries.Entry.{Entry}
use Rattle.crew_log.specs.Logs.{AreOf, Log, Seat}
use Rattle.crew_service.specs.Plans.{Planning, entries_of}
use Rattle.crew_publish.specs.declared.fault.ViewFault.{ViewFault}
use Rattle.crew_publish.specs.declared.fault.ViewFault.TheVariants as Sight
use Rattle.crew_service.specs.declared.fault.SettleFault.{SettleFault}
use Rattle.crew_service.specs.declared.fault.SettleFault.TheVariants as Settle
use Rattle.crew_session.specs.Oddities.{Found, Made}
use Rattle.crew_session.specs.declared.engine_fault.EngineFault.{EngineFault}
use Rattle.crew_session.specs.declared.engine_fault.EngineFault.TheVariants.{TooManyDuties, LastVersion, Gap, NoView, Memory}
use Rattle.crew_serve.specs.declared.threaded.Last.{Last}
use Rattle.crew_serve.specs.declared.threaded.Last.TheVariants.{Shown, Refused, Other}
use Rattle.crew_serve.specs.declared.threaded.Sight.{Sight}
use Rattle.crew_serve.specs.declared.threaded.Sight.TheVariants.{Opening, Published}
use Rattle.crew_version.specs.Versions.{Snapshot}

-- the log of its service, all entries that it took, the version that it shows, what its planner has
-- made and read, and what its last settle found
pub record Threading : Type 0 where
  pub log : Log
  pub entries : List Entry
  pub shown : Snapshot
  pub made : Made
  pub found : Found

-- the version that is shown
abbrev pub seen_by : Sight → Snapshot
seen_by (Opening version) = version
seen_by (Published view) = view.version

-- what a planner has made and read
abbrev pub made_by : Planning → Made
made_by p = record { version = p.version; read = entries_of p.receipts }

-- the places of some receipts
abbrev pub places_of : List (Where Entry) → List ℕ
places_of receipts = map (λ r. r.index) receipts

-- what a settle that ended so has found
abbrev pub what_by : Last → Snapshot → Result Snapshot EngineFault
what_by Shown shown = Ok shown
what_by (Refused fault) shown = Err fault
what_by (Other view) shown = Ok view.version

-- the planner reads that log; the seat is the first, and it has made an entry for each receipt, up
-- to 1,000,000 of them; the receipts are of that log
pub record IsThreaded (log : Log) (planner : Planning) (seat : Seat) (receipts : List (Where Entry))
    : Type 0 where
  pub own : planner.log ≡ log
  pub first : seat.number ≡ 0
  pub made : seat.made ≡ length receipts
  pub few : length receipts ≤ 1_000_000
  pub of : AreOf log receipts

-- why a planner doesn't settle, as an engine says it
abbrev pub settled_fault_of : SettleFault → EngineFault
settled_fault_of (Settle.Gap place) = Gap place
settled_fault_of Settle.LastVersion = LastVersion
settled_fault_of Settle.TooManyDuties = TooManyDuties
settled_fault_of Settle.Memory = Memory

-- why a view isn't given, as an engine says it
abbrev pub view_fault_of : ViewFault → EngineFault
view_fault_of Sight.NoView = NoView
view_fault_of Sight.Memory = Memory
