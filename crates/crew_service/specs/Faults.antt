-- Why a service isn't made, or doesn't settle.
use Rattle.std.specs.Prelude.{◌≡◌, ◌<◌, ◌≤◌, ℕ, List, Option, Some, None, length}
use Rattle.boxcar.specs.Table.{Where}
use Rattle.crew_flights.specs.declared.entries.Entry.{Entry}
use Rattle.crew_log.specs.Logs.{HaveNone}
use Rattle.crew_board.specs.crew_machine.Rounds.{last_number}
use Rattle.crew_pairing.specs.Duties.{HasTooMany}
use Rattle.crew_publish.specs.Faults.{IsViewerCount}
use Rattle.crew_resource.specs.Members.{Member}
use Rattle.crew_service.specs.Plans.{AreBelow, Planning, entries_of}
use Rattle.crew_service.specs.declared.fault.ServiceFault.{ServiceFault}
use Rattle.crew_service.specs.declared.fault.ServiceFault.TheVariants as Service
use Rattle.crew_service.specs.declared.fault.SettleFault.{SettleFault}
use Rattle.crew_service.specs.declared.fault.SettleFault.TheVariants as Settle
use Rattle.crew_board.specs.crew_version.Versions.{timetable_of}

-- the numbers of the refusals
abbrev pub service_number : ServiceFault → Option ℕ
service_number Service.TooManySeats = Some 60
service_number Service.NoViewer = Some 64
service_number Service.Memory = None

abbrev pub settle_number : SettleFault → Option ℕ
settle_number (Settle.Gap place) = Some 62
settle_number Settle.LastVersion = Some 57
settle_number Settle.TooManyDuties = Some 40
settle_number Settle.Memory = None

-- a log has at most 64 seats
abbrev pub IsSeatCount : ℕ → Type 0
IsSeatCount seats = seats ≤ 64

-- a service isn't made with so many seats and viewers, for the first of these that applies
abbrev pub IsServiceFault : ℕ → ℕ → ServiceFault → Type 0
IsServiceFault seats viewers Service.TooManySeats = IsSeatCount seats → ⊥
IsServiceFault seats viewers Service.NoViewer = IsSeatCount seats × (IsViewerCount viewers → ⊥)
IsServiceFault seats viewers Service.Memory = IsSeatCount seats × IsViewerCount viewers

-- no receipt has this place, and one has a greater one
pub record IsMissing (wanted : List (Where Entry)) (place : ℕ) : Type 0 where
  pub none_there : HaveNone wanted place
  pub above : Where Entry
  pub wants : Member wanted above
  pub greater : place < above.index

-- all that is wanted is read, and the version is as it was
pub record IsPassed (old : Planning) (wanted : List (Where Entry)) (new : Planning) : Type 0 where
  pub read : AreBelow (length new.receipts) wanted
  pub version : new.version ≡ old.version

-- a settle is refused: the first place that isn't read is missing; or all that is wanted is read, and
-- there is no number after the version's, or what is read comes to too many duties; or there is no
-- memory, at whatever step
abbrev pub IsSettleFault : Planning → List (Where Entry) → Planning → SettleFault → Type 0
IsSettleFault old wanted new (Settle.Gap place) = (place ≡ length new.receipts)
    × IsMissing wanted place × (new.version ≡ old.version)
IsSettleFault old wanted new Settle.LastVersion = IsPassed old wanted new
    × (old.version.number ≡ last_number)
IsSettleFault old wanted new Settle.TooManyDuties = IsPassed old wanted new
    × (old.version.number < last_number)
    × HasTooMany old.version.settings (timetable_of (entries_of new.receipts))
IsSettleFault old wanted new Settle.Memory = Unit {0}
