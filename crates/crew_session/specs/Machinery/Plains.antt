-- What the engine without workers holds.
use Rattle.std.specs.Prelude.{◌++◌, List, [], Ok}
use Rattle.crew_flights.specs.declared.entries.Entry.{Entry}
use Rattle.crew_session.specs.Oddities.{Found, Made}
use Rattle.crew_version.specs.Versions.{Snapshot}
use Rattle.crew_session.specs.declared.plain.Plain.{Plain}

-- its version
abbrev pub shown_by : Plain → Snapshot
shown_by e = e.version

-- the entries of its version, and those since
abbrev pub taken_by : Plain → List Entry
taken_by e = e.version.entries ++ e.pending.items

-- it shows what it has made, and nobody else writes its log
abbrev pub made_by : Plain → Made
made_by e = record { version = e.version; read = e.version.entries }

abbrev pub found_by : Plain → Found
found_by e = record { before = made_by e; after = made_by e; places = []; what = Ok e.version }
