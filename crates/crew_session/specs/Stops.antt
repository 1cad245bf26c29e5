-- Which fault ends a session.
use Rattle.std.specs.Prelude.{◌≡◌, ◌⊎◌, ◌<◌, ℕ, Bool, IsTrue, false, List, length, Option, IfSome}
use Rattle.crew_session.specs.Rows.{records_of}
use Rattle.crew_session.specs.declared.fault.SessionFault.{SessionFault}
use Rattle.crew_session.specs.declared.fault.SessionFault.TheVariants.{Read, Write, Memory, Strange}

-- bytes, where they are known, have more than 2,000,000 records
abbrev pub HasTooManyRecords : Option (List ℕ) → Type 0
HasTooManyRecords input = IfSome input (λ bytes. 2_000_000 < length (records_of bytes))

-- by what numbers are called for, what was to read, and whether the reader and the writer have
-- failed: a read fault where the reader has, or there are too many records; a write fault where the
-- writer has; want of memory where neither has; and what no session brings about only by a number
-- that is called for
abbrev pub IsSessionFault : (ℕ → Type 0) → Option (List ℕ) → Bool → Bool → SessionFault → Type 0
IsSessionFault Called input reader writer Read = IsTrue reader ⊎ HasTooManyRecords input
IsSessionFault Called input reader writer Write = IsTrue writer
IsSessionFault Called input reader writer Memory = (reader ≡ false) × (writer ≡ false)
IsSessionFault Called input reader writer (Strange number) = Called number
