-- What an engine answers.
use Rattle.std.specs.Prelude.{◌≡◌, ◌⊎◌, ◌<◌, ◌++◌, ℕ, Bool, IsTrue, List, length, Option, Some, None, Result, Ok, Err}
use Rattle.crew_flights.specs.declared.entries.Entry.{Entry}
use Rattle.crew_pairing.specs.Duties.{HasTooMany}
use Rattle.crew_version.specs.Versions.{Snapshot, timetable_of}
use Rattle.crew_version.specs.declared.fault.VersionFault.{VersionFault}
use Rattle.crew_session.specs.Oddities.{Found, IsWhole}
use Rattle.crew_session.specs.declared.engine_fault.EngineFault.{EngineFault}
use Rattle.crew_session.specs.declared.engine_fault.EngineFault.TheVariants.{TooManyDuties, LastVersion, SeatFull, Gap, OtherLog, NoView, Memory}

-- the number of an engine's refusal
abbrev pub engine_number : EngineFault → Option ℕ
engine_number TooManyDuties = Some 40
engine_number LastVersion = Some 57
engine_number SeatFull = Some 61
engine_number (Gap place) = Some 62
engine_number OtherLog = Some 63
engine_number NoView = Some 65
engine_number Memory = None

-- why a version can't be followed, as an engine says it
abbrev pub engine_fault_of : VersionFault → EngineFault
engine_fault_of VersionFault.TooManyDuties = TooManyDuties
engine_fault_of VersionFault.LastVersion = LastVersion
engine_fault_of VersionFault.Memory = Memory

-- an edit is refused where 1,000,000 edits were taken, and below that for want of memory
abbrev pub IsSubmitFault : List Entry → EngineFault → Type 0
IsSubmitFault entries SeatFull = length entries ≡ 1_000_000
IsSubmitFault entries Memory = length entries < 1_000_000
IsSubmitFault entries TooManyDuties = ⊥
IsSubmitFault entries LastVersion = ⊥
IsSubmitFault entries (Gap place) = ⊥
IsSubmitFault entries OtherLog = ⊥
IsSubmitFault entries NoView = ⊥

-- the duties of all entries that were taken are too many
abbrev pub AreTooMany : Snapshot → List Entry → Type 0
AreTooMany version entries = HasTooMany version.settings (timetable_of entries)

-- a settle is refused where the version has the greatest number, for too many duties, or for want
-- of memory; by an engine that may be strange also for what it finds in its log
abbrev pub IsSettleFault : Bool → Snapshot → List Entry → EngineFault → Type 0
IsSettleFault strange version entries LastVersion =
    (version.number ≡ 18_446_744_073_709_551_615) ⊎ IsTrue strange
IsSettleFault strange version entries TooManyDuties = AreTooMany version entries ⊎ IsTrue strange
IsSettleFault strange version entries (Gap place) = IsTrue strange
IsSettleFault strange version entries OtherLog = IsTrue strange
IsSettleFault strange version entries NoView = IsTrue strange
IsSettleFault strange version entries Memory = Unit {0}
IsSettleFault strange version entries SeatFull = ⊥

-- the later entries begin with the earlier ones
abbrev pub BeginsWith : List Entry → List Entry → Type 0
BeginsWith earlier later = (more : List Entry) × (later ≡ earlier ++ more)

-- what a settle answers is what it found: the version that the engine then shows, or why there is
-- none; `OtherLog` where it found a version that isn't the next whole one, and shows the one before
abbrev pub IsFound : Snapshot → List Entry → Snapshot → Found → Result (Unit {0}) EngineFault
    → Type 0
IsFound before taken shown found (Ok done) = found.what ≡ Ok shown
IsFound before taken shown found (Err OtherLog) =
    (after : Snapshot) × (found.what ≡ Ok after) × ¬ (IsWhole before taken after)
IsFound before taken shown found (Err fault) = found.what ≡ Err fault
