-- What a session writes.
use Rattle.std.specs.Prelude.{◌≡◌, ◌⊎◌, ◌+◌, ℕ, nat_lt, List, [], ◌∷◌, ◌++◌, length, drop, Option, Some, None, if◌then◌else◌}
use Rattle.std.specs.FinMap as map
use Rattle.jiff_tz.specs.PosixText.{TzText}
use Rattle.crew_rules.specs.declared.settings.Settings.{Settings}
use Rattle.crew_flights.specs.declared.edit.Edit.{Edit}
use Rattle.crew_flights.specs.declared.edit.Edit.TheVariants as edit
use Rattle.crew_flights.specs.declared.entries.Entry.{Entry}
use Rattle.crew_pairing.specs.Duties.{HasTooMany}
use Rattle.crew_records.specs.Commands.{command_of}
use Rattle.crew_records.specs.Faults.{record_number}
use Rattle.crew_session.specs.Lines.{refused_line, refused_lines, version_line}
use Rattle.crew_records.specs.Fields.{Fields}
use Rattle.crew_session.specs.Questions.{Tells}
use Rattle.crew_session.specs.Rows.{records_of}
use Rattle.crew_session.specs.Entries.{entry_of}
use Rattle.crew_session.specs.Writes.{BeginsBy, WritesBy}
use Rattle.crew_session.specs.Zones.{Zones, clock_at, flight_with, zone_fault}
use Rattle.crew_version.specs.Versions.{IsNext, IsRight, Snapshot, opening, timetable_of, verdicts_of}
use Rattle.crew_records.specs.declared.command.Command.{Command}
use Rattle.crew_records.specs.declared.command.Command.TheVariants.{AddZone, Submit, AddFlight, Retime, Settle, Refuse}
use Rattle.crew_records.specs.declared.fault.RecordFault.{RecordFault}

-- where a session stands: the zones, the last version, the entries since, and the records of these
pub record State : Type 0 where
  pub zones : Zones
  pub version : Snapshot
  pub entries : List Entry
  pub records : List ℕ

-- before any record
abbrev pub start : Settings → State
start s = record { zones = map.empty; version = opening s; entries = []; records = [] }

-- ---- what a record does: the state after it, and what it writes

abbrev pub refuse : ℕ → ℕ → State → State × List ℕ
refuse number why a = (a, refused_line number why)

abbrev pub entry_count : State → ℕ
entry_count a = length a.version.entries + length a.entries

-- an edit becomes an entry, up to 1,000,000 of them
abbrev pub with_entry : ℕ → Edit → State → State
with_entry number e a = record a {
  entries = a.entries ++ entry_of (entry_count a) e ∷ [];
  records = a.records ++ number ∷ [];
}

abbrev pub submit : ℕ → Edit → State → State × List ℕ
submit number e a =
    if nat_lt (entry_count a) 1_000_000 then (with_entry number e a, []) else refuse number 61 a

-- a zone is taken, or refused
abbrev pub with_zone : List ℕ → TzText → State → State
with_zone code zone a = record a { zones = map.insert a.zones code zone }

abbrev pub zone_or_refuse : Option RecordFault → ℕ → List ℕ → TzText → State → State × List ℕ
zone_or_refuse None number code zone a = (with_zone code zone a, [])
zone_or_refuse (Some fault) number code zone a = refuse number (record_number fault) a

abbrev pub add_zone : ℕ → List ℕ → TzText → State → State × List ℕ
add_zone number code zone a = zone_or_refuse (zone_fault a.zones code) number code zone a

-- an edit that needs a report clock
abbrev pub submit_at : Option ℕ → (ℕ → Edit) → ℕ → State → State × List ℕ
submit_at None e number a = refuse number 73 a
submit_at (Some clock) e number a = submit number (e clock) a

-- ---- what a settle does

-- it makes the next version of all entries so far
pub record Publishes (a b : State) (text : List ℕ) : Type 0 where
  pub next : IsNext a.version a.entries b.version
  pub right : IsRight b.version
  pub after : b ≡ record { zones = a.zones; version = b.version; entries = []; records = [] }
  pub written : text
      ≡ refused_lines a.records (drop (length a.version.entries) (verdicts_of b.version.entries))
      ++ version_line b.version

-- or there are too many legal duties: the entries stay, and belong to the next settle
pub record Declines (number : ℕ) (a b : State) (text : List ℕ) : Type 0 where
  pub many : HasTooMany a.version.settings (timetable_of (a.version.entries ++ a.entries))
  pub after : b ≡ a
  pub written : text ≡ refused_line number 40

abbrev pub Settles : ℕ → State → State → List ℕ → Type 0
Settles number a b text = Publishes a b text ⊎ Declines number a b text

-- ---- a record, by what it asks for

-- the state after it and what it writes are these
abbrev pub Does : State → List ℕ → State × List ℕ → Type 0
Does b text p = (b ≡ p.0) × (text ≡ p.1)

abbrev pub Obeys : Settings → ℕ → Command → State → State → List ℕ → Type 0
Obeys s number (AddZone code zone) a b text = Does b text (add_zone number code zone a)
Obeys s number (Submit e) a b text = Does b text (submit number e a)
Obeys s number (AddFlight id from to dep arr price) a b text =
    Does b text (submit_at (clock_at s a.zones from dep)
    (flight_with id from to dep arr price) number a)
Obeys s number (Retime id from dep arr) a b text =
    Does b text (submit_at (clock_at s a.zones from dep) (edit.Retime id from dep arr) number a)
Obeys s number Settle a b text = Settles number a b text
Obeys s number (Refuse fault) a b text = Does b text (refuse number (record_number fault) a)
Obeys s number question a b text = (b ≡ a) × Tells number question a.version text

-- the record of a number
abbrev pub ObeysRow : Settings → ℕ → Fields → State → State → List ℕ → Type 0
ObeysRow s number row a b text = Obeys s number (command_of row) a b text

-- what records write, one after another, where so many came before them
abbrev pub Writes : Settings → ℕ → State → List Fields → List ℕ → Type 0
Writes s number a rows text = WritesBy (ObeysRow s) number a rows text

-- what was written of these records, obeyed from a state on, is a beginning of the text of the first
-- so many, which are 2,000,000 at most
abbrev pub Begins : Settings → State → List Fields → Option (List ℕ) → Option (List ℕ) → Type 0
Begins s a rows before after = BeginsBy (ObeysRow s) a rows before after

-- what a session of these bytes writes
abbrev pub IsSessionText : Settings → List ℕ → List ℕ → Type 0
IsSessionText s bytes text = Writes s 0 (start s) (records_of bytes) text
