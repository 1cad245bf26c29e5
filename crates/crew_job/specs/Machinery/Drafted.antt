-- Parts of a ground while it is made.
use Rattle.std.specs.Prelude.{◌≡◌, ◌+◌, ◌<◌, List}
use mathlib.Core.List.{IsPrefix}
use Rattle.crew_flights.specs.Timetable.{Timetable}
use Rattle.crew_flights.specs.declared.entries.Entry.{Entry}
use Rattle.crew_job.specs.declared.fault.GroundFault.{GroundFault}
use Rattle.crew_job.specs.declared.fault.GroundFault.TheVariants.{ShorterLog, LastVersion, TooManyDuties, Memory}
use Rattle.crew_machine.specs.Rounds.{last_number}
use Rattle.crew_pairing.specs.Duties.{HasTooMany}
use Rattle.crew_rules.specs.Settings.{IsChecked}
use Rattle.crew_rules.specs.declared.settings.Settings.{Settings}
use Rattle.crew_version.specs.Versions.{IsRight, Snapshot}
use Rattle.crew_version.specs.Drafts.{Draft}

-- a draft of the version after one, over entries that begin with its
pub record IsDraftOver (sealed : Snapshot) (entries : List Entry) (draft : Draft) : Type 0 where
  pub checked : IsChecked draft.settings
  pub settings : draft.settings ≡ sealed.settings
  pub number : draft.number ≡ sealed.number + 1
  pub entries_are : draft.entries ≡ entries
  pub begins : IsPrefix sealed.entries entries
  pub number_left : sealed.number < last_number
  pub right : IsRight sealed

-- a draft has no plan: it comes to too many duties, or there is no memory
abbrev pub IsPlanFault : Settings → Timetable → GroundFault → Type 0
IsPlanFault s t ShorterLog = ⊥
IsPlanFault s t LastVersion = ⊥
IsPlanFault s t TooManyDuties = HasTooMany s t
IsPlanFault s t Memory = Unit {0}
