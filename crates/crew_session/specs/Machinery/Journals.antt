-- Where a session in memory stands.
use Rattle.std.specs.Prelude.{◌≡◌, ◌≤◌, ◌++◌, ℕ, Bool, true, List, drop, length, Option, Some}
use Rattle.std.specs.FinMap as map
use Rattle.std.specs.Io.KnownBytes.{Appends}
use Rattle.crew_flights.specs.declared.entries.Entry.{Entry}
use Rattle.crew_rules.specs.declared.settings.Settings.{Settings}
use Rattle.crew_records.specs.Fields.{Fields}
use Rattle.crew_session.specs.Engines.{engine_number}
use Rattle.crew_session.specs.Lines.{refused_line}
use Rattle.crew_session.specs.declared.engine_fault.EngineFault.{EngineFault}
use Rattle.crew_session.specs.Machinery.Endings.{HasEndedBy}
use Rattle.crew_session.specs.Session.{ObeysRow, State}
use Rattle.crew_session.specs.Zones.{Zones as ZoneMap}
use Rattle.crew_version.specs.Versions.{Snapshot}
use Rattle.crew_session.specs.declared.zones.Zones.{Zones}
use Rattle.crew_session.specs.declared.journal.Journal.{Journal}
use Rattle.crew_session.specs.declared.ending.Ending.{Ending}

-- the zones in memory
abbrev pub zones_of : Zones → ZoneMap
zones_of z = map.from_sorted z.by_code.entries

-- the entries that were taken after those of a version
abbrev pub since : Snapshot → List Entry → List Entry
since version taken = drop (length version.entries) taken

-- the state of a session that keeps this, beside an engine with a version and entries that it took
abbrev pub state_of : Journal → Snapshot → List Entry → State
state_of j version taken = record {
  zones = zones_of j.zones;
  version = version;
  entries = since version taken;
  records = j.records.items;
}

-- the engine has taken the entries of its version and one for each record since; these are kept
-- where it may be strange
pub record IsInStep (strange : Bool) (j : Journal) (version : Snapshot) (taken : List Entry)
    : Type 0 where
  pub goes_on : taken ≡ version.entries ++ since version taken
  pub records : length j.records.items ≡ length (since version taken)
  pub few : length taken ≤ 1_000_000
  pub kept : strange ≡ true → j.entries.items ≡ since version taken

-- how the reading of a session's records ended
abbrev pub HasEnded :
    Settings → State → List Fields → Option (List ℕ) → Option (List ℕ) → Ending → Type 0
HasEnded s a rows old new ending = HasEndedBy (ObeysRow s) a rows old new ending

-- the line of an engine's refusal
abbrev pub IsRefusal : ℕ → EngineFault → List ℕ → Type 0
IsRefusal number fault text =
    (why : ℕ) × (engine_number fault ≡ Some why) × (text ≡ refused_line number why)

-- a session came to a state, and wrote a text
abbrev pub Came : Option (List ℕ) → Option (List ℕ) → State → State × List ℕ → Type 0
Came old new b p = Appends old new p.1 × (b ≡ p.0)
