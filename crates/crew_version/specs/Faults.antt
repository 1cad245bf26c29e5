-- Why a version can't be followed.
use Rattle.std.specs.Prelude.{◌≡◌, ℕ, List, Option, Some, None}
use Rattle.crew_flights.specs.declared.entries.Entry.{Entry}
use Rattle.crew_flights.specs.Timetable.{Timetable}
use Rattle.crew_pairing.specs.Duties.{HasTooMany}
use Rattle.crew_rules.specs.declared.settings.Settings.{Settings}
use Rattle.crew_version.specs.Versions.{Snapshot, timetable_of}
use Rattle.crew_version.specs.declared.fault.VersionFault.{VersionFault}
use Rattle.crew_version.specs.declared.fault.VersionFault.TheVariants.{TooManyDuties, LastVersion, Memory}

-- the number of a refusal
abbrev pub version_number : VersionFault → Option ℕ
version_number TooManyDuties = Some 40
version_number LastVersion = Some 57
version_number Memory = None

-- a version isn't followed by one of these entries: they come to too many duties, its number is the
-- greatest, or there is no memory
abbrev pub IsNextFault : Snapshot → List Entry → VersionFault → Type 0
IsNextFault version entries TooManyDuties = HasTooMany version.settings (timetable_of entries)
IsNextFault version entries LastVersion = version.number ≡ 18_446_744_073_709_551_615
IsNextFault version entries Memory = Unit {0}

-- fronts aren't found: too many duties, or want of memory
abbrev pub IsSearchFault : Settings → Timetable → VersionFault → Type 0
IsSearchFault s t TooManyDuties = HasTooMany s t
IsSearchFault s t LastVersion = ⊥
IsSearchFault s t Memory = Unit {0}
