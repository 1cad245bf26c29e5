-- What a settle of an engine finds, by what the engine had before it and has after it; what of that is
-- odd, and where a session meets it.
use Rattle.std.specs.Prelude.{◌≡◌, ◌+◌, ◌<◌, ◌≤◌, ◌++◌, ℕ, Bool, IsTrue, List, [], ◌∷◌, drop, length, take, Option, IfSome, Result, Ok, Err}
use mathlib.Core.List.{IsPrefix}
use Rattle.crew_flights.specs.declared.entries.Entry.{Entry}
use Rattle.crew_pairing.specs.Duties.{HasFew, HasTooMany}
use Rattle.crew_records.specs.Commands.{command_of}
use Rattle.crew_records.specs.Fields.{Fields}
use Rattle.crew_records.specs.declared.command.Command.TheVariants.{Settle}
use Rattle.crew_resource.specs.Members.{Member}
use Rattle.crew_rules.specs.declared.settings.Settings.{Settings}
use Rattle.crew_session.specs.Rows.{records_of}
use Rattle.crew_session.specs.Session.{ObeysRow, State, start}
use Rattle.crew_session.specs.Writes.{LeadsBy}
use Rattle.crew_session.specs.declared.engine_fault.EngineFault.{EngineFault}
use Rattle.crew_session.specs.declared.engine_fault.EngineFault.TheVariants.{TooManyDuties, LastVersion, SeatFull, Gap, OtherLog, NoView, Memory}
use Rattle.crew_version.specs.Versions.{IsRight, Snapshot, timetable_of}

-- what an engine has: the version that it made last, and the entries that its log has shown it
pub record Made : Type 0 where
  pub version : Snapshot
  pub read : List Entry

-- so before any entry
abbrev pub nothing_made : Snapshot → Made
nothing_made first = record { version = first; read = [] }

-- it made the next version, of all that its log has shown it
pub record HasMadeNext (before after : Made) : Type 0 where
  pub number : after.version.number ≡ before.version.number + 1
  pub settings : after.version.settings ≡ before.version.settings
  pub entries : after.version.entries ≡ after.read
  pub right : IsRight after.version

-- or none
abbrev pub HasMadeNone : Made → Made → Type 0
HasMadeNone before after = after.version ≡ before.version

-- what is shown goes on from a version that was made: it is that, or came after it
pub record GoesOn (made shown : Snapshot) : Type 0 where
  pub number : made.number ≤ shown.number
  pub entries : IsPrefix made.entries shown.entries

-- of the entries that were taken, whose places in the log are these, none stands at the first place
-- that the log hasn't shown, and one stands after it
pub record IsHole (read : List Entry) (places : List ℕ) (place : ℕ) : Type 0 where
  pub first : place ≡ length read
  pub none_there : Member places place → ⊥
  pub later : ℕ
  pub taken : Member places later
  pub greater : place < later

-- what a settle of an engine finds: a version that is shown, or why there is none; with what the
-- engine had before it and has after it, and the places in its log of the entries that it took
pub record Found : Type 0 where
  pub before : Made
  pub after : Made
  pub places : List ℕ
  pub what : Result Snapshot EngineFault

-- what brings it about: a version is shown, or none can be seen, where the next one was made; else
-- none was made, since what the log has shown comes to too many duties, or the version made last has
-- the greatest number, or the log has a hole, or for want of memory
abbrev pub IsToldBy : Made → Made → List ℕ → Result Snapshot EngineFault → Type 0
IsToldBy before after places (Ok shown) =
    HasMadeNext before after × GoesOn after.version shown
IsToldBy before after places (Err NoView) = HasMadeNext before after
IsToldBy before after places (Err TooManyDuties) = HasMadeNone before after
    × HasTooMany before.version.settings (timetable_of after.read)
IsToldBy before after places (Err LastVersion) = HasMadeNone before after
    × (before.version.number ≡ 18_446_744_073_709_551_615)
IsToldBy before after places (Err (Gap place)) = HasMadeNone before after
    × IsHole after.read places place
IsToldBy before after places (Err OtherLog) = ⊥
IsToldBy before after places (Err SeatFull) = ⊥
IsToldBy before after places (Err Memory) = Unit {0}

-- what was found is told by what the engine had, by the entries that it took, and by what it has
pub record IsTold (before : Made) (taken : List Entry) (after : Made) (found : Found) : Type 0 where
  pub from : found.before ≡ before
  pub upto : found.after ≡ after
  pub many : length found.places ≡ length taken
  pub reads : IsPrefix before.read after.read
  pub why : IsToldBy before after found.places found.what

-- the next version, of all entries that were taken
pub record IsWhole (before : Snapshot) (taken : List Entry) (after : Snapshot) : Type 0 where
  pub number : after.number ≡ before.number + 1
  pub settings : after.settings ≡ before.settings
  pub entries : after.entries ≡ taken

-- by the version before, all entries that were taken, and the number that the session is stopped by:
-- a version that isn't the next whole one; or a refusal that no session brings about, where 40 is
-- one if the entries that were taken come to at most 200,000 legal duties
abbrev pub IsOdd : Snapshot → List Entry → Result Snapshot EngineFault → ℕ → Type 0
IsOdd before taken (Ok after) number = (number ≡ 63) × ¬ (IsWhole before taken after)
IsOdd before taken (Err TooManyDuties) number =
    (number ≡ 63) × HasFew before.settings (timetable_of taken)
IsOdd before taken (Err LastVersion) number = number ≡ 57
IsOdd before taken (Err (Gap place)) number = number ≡ 62
IsOdd before taken (Err NoView) number = number ≡ 65
IsOdd before taken (Err OtherLog) number = ⊥
IsOdd before taken (Err SeatFull) number = ⊥
IsOdd before taken (Err Memory) number = ⊥

-- the same, where a session stands there, and what was found is told
pub record IsOddAt (a : State) (found : Found) (number : ℕ) : Type 0 where
  pub odd : IsOdd a.version (a.version.entries ++ a.entries) found.what number
  pub told : IsTold found.before (a.version.entries ++ a.entries) found.after found

-- a session whose engine may be strange stood at such a place, and what was found is odd there
abbrev pub MeetsOdd : Bool → (State → Type 0) → Found → ℕ → Type 0
MeetsOdd strange Stands found number =
    IsTrue strange × ((at : State) × Stands at × IsOddAt at found number)

-- the first records, obeyed from a state on, lead to where the next one is a settle
pub record IsSettledAt (s : Settings) (first : State) (rows : List Fields) (at : State) : Type 0
  where
    pub count : ℕ
    pub few : count < 2_000_000
    pub leads : LeadsBy (ObeysRow s) 0 first (take count rows) at
    pub row : Fields
    pub rest : List Fields
    pub next : drop count rows ≡ row ∷ rest
    pub settle : command_of row ≡ Settle

-- the number is called for: some settle of the session of these bytes, where they are known, found
-- what is odd there
abbrev pub IsCalledFor : Bool → Settings → Option (List ℕ) → Found → ℕ → Type 0
IsCalledFor strange s input found number = MeetsOdd strange
    (λ at. IfSome input (λ bytes. IsSettledAt s (start s) (records_of bytes) at)) found number
