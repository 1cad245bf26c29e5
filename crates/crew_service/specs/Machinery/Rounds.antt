-- A planner's round on a board.
use Rattle.std.specs.Prelude.{◌≡◌, ◌<◌, List, Option, Some, None}
use Rattle.crew_board.specs.declared.fault.BeginFault.{BeginFault}
use Rattle.crew_board.specs.declared.fault.BeginFault.TheVariants.{Busy, Ground}
use Rattle.crew_flights.specs.declared.entries.Entry.{Entry}
use Rattle.crew_board.specs.crew_job.declared.fault.GroundFault.TheVariants as NoGround
use Rattle.crew_board.specs.crew_machine.Rounds.{last_number}
use Rattle.crew_pairing.specs.Duties.{HasTooMany}
use Rattle.crew_service.specs.declared.fault.SettleFault.{SettleFault}
use Rattle.crew_service.specs.declared.fault.SettleFault.TheVariants as Settle
use Rattle.crew_board.specs.crew_version.Versions.{Snapshot, timetable_of}

-- a round isn't opened over entries that begin with a version's
abbrev pub IsRoundFault : Snapshot → List Entry → SettleFault → Type 0
IsRoundFault version entries (Settle.Gap place) = ⊥
IsRoundFault version entries Settle.LastVersion = version.number ≡ last_number
IsRoundFault version entries Settle.TooManyDuties = (version.number < last_number)
    × HasTooMany version.settings (timetable_of entries)
IsRoundFault version entries Settle.Memory = Unit {0}

-- what a refusal of the board is to the planner; none where it can't come
abbrev pub fault_of : BeginFault → Option SettleFault
fault_of Busy = None
fault_of (Ground NoGround.ShorterLog) = None
fault_of (Ground NoGround.LastVersion) = Some Settle.LastVersion
fault_of (Ground NoGround.TooManyDuties) = Some Settle.TooManyDuties
fault_of (Ground NoGround.Memory) = Some Settle.Memory
