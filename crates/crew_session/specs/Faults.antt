-- Why a session stops.
use Rattle.std.specs.Prelude.{ℕ, Bool, true, false, Option, Some, None}
use Rattle.crew_session.specs.Engines.{engine_number}
use Rattle.crew_session.specs.declared.engine_fault.EngineFault.{EngineFault}
use Rattle.crew_session.specs.declared.fault.SessionFault.{SessionFault}
use Rattle.crew_session.specs.declared.fault.SessionFault.TheVariants.{Read, Write, Memory, Strange}

-- the number of what an engine answered
abbrev pub session_number : SessionFault → Option ℕ
session_number Read = None
session_number Write = None
session_number Memory = None
session_number (Strange number) = Some number

-- where an engine refuses: by the number of the refusal, or for want of memory
abbrev pub stop_by : Option ℕ → SessionFault
stop_by None = Memory
stop_by (Some number) = Strange number

abbrev pub stop_of : EngineFault → SessionFault
stop_of fault = stop_by (engine_number fault)

-- no number is called for
abbrev pub Never : ℕ → Type 0
Never number = ⊥

-- a read stops for the reader, or for want of memory
abbrev pub IsReadFault : SessionFault → Type 0
IsReadFault Read = Unit {0}
IsReadFault Memory = Unit {0}
IsReadFault Write = ⊥
IsReadFault (Strange number) = ⊥

-- a line stops for the writer, or for want of memory
abbrev pub IsLineFault : SessionFault → Type 0
IsLineFault Write = Unit {0}
IsLineFault Memory = Unit {0}
IsLineFault Read = ⊥
IsLineFault (Strange number) = ⊥

-- a record stops for the writer, for want of memory, or for what an engine found, whose number is
-- called for
abbrev pub IsRecordFault : (ℕ → Type 0) → SessionFault → Type 0
IsRecordFault Called Write = Unit {0}
IsRecordFault Called Memory = Unit {0}
IsRecordFault Called Read = ⊥
IsRecordFault Called (Strange number) = Called number

-- the play of a session stops for the reader too
abbrev pub IsPlayFault : (ℕ → Type 0) → SessionFault → Type 0
IsPlayFault Called Read = Unit {0}
IsPlayFault Called Write = Unit {0}
IsPlayFault Called Memory = Unit {0}
IsPlayFault Called (Strange number) = Called number

-- why a session stops, by whether the reader and the writer have failed
abbrev pub cause_by : Bool → Bool → SessionFault
cause_by true writer = Read
cause_by false true = Write
cause_by false false = Memory

abbrev pub cause_of : SessionFault → Bool → Bool → SessionFault
cause_of (Strange number) reader writer = Strange number
cause_of Read reader writer = cause_by reader writer
cause_of Write reader writer = cause_by reader writer
cause_of Memory reader writer = cause_by reader writer
