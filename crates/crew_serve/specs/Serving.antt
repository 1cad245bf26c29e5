-- Why a service ends before its input does.
use Rattle.std.specs.Prelude.{Bool, IsTrue}
use Rattle.crew_session.specs.declared.fault.SessionFault.{SessionFault}
use Rattle.crew_session.specs.declared.fault.SessionFault.TheVariants.{Read, Write, Memory, Strange}

-- by whether the reader has failed: a read fault only where it has, a write fault where answers can't be
-- sent, or want of memory
abbrev pub IsServingFault : Bool → SessionFault → Type 0
IsServingFault reader Read = IsTrue reader
IsServingFault reader Write = Unit {0}
IsServingFault reader Memory = Unit {0}
IsServingFault reader (Strange number) = ⊥
