-- Drafts: what a version's entries and some more come to, before their fronts are made.
use Rattle.std.specs.Prelude.{◌≡◌, ◌+◌, ℕ, List, [], ◌++◌}
use Rattle.crew_plan.specs.crew_answers.Bests.{IsScratch}
use Rattle.crew_flights.specs.Timetable.{Timetable}
use Rattle.crew_flights.specs.declared.entries.Entry.{Entry}
use Rattle.crew_rules.specs.declared.settings.Settings.{Settings}
use Rattle.crew_plan.specs.Solutions.{HasNetOf, Solution, front_of}
use Rattle.crew_version.specs.Versions.{Snapshot}
use Rattle.crew_version.specs.declared.fault.VersionFault.{VersionFault}
use Rattle.crew_version.specs.declared.fault.VersionFault.TheVariants.{TooManyDuties, LastVersion, Memory}

-- what a draft shows
pub record Draft : Type 0 where
  pub number : ℕ
  pub settings : Settings
  pub entries : List Entry

-- before any entry
abbrev pub blank : Settings → Draft
blank settings = record { number = 0; settings = settings; entries = [] }

-- the draft of a version's next one: so many entries more
pub record IsDraftOf (before : Snapshot) (entries : List Entry) (draft : Draft) : Type 0 where
  pub number : draft.number ≡ before.number + 1
  pub settings : draft.settings ≡ before.settings
  pub grown : draft.entries ≡ before.entries ++ entries

-- a version has no draft of a next one: its number is the greatest, or there is no memory
abbrev pub IsDraftFault : Snapshot → VersionFault → Type 0
IsDraftFault version TooManyDuties = ⊥
IsDraftFault version LastVersion = version.number ≡ 18_446_744_073_709_551_615
IsDraftFault version Memory = Unit {0}

-- a timetable's fronts and best pairing, over the network of its legal duties
pub record IsSolutionOf (s : Settings) (t : Timetable) (solution : Solution) : Type 0 where
  pub network : HasNetOf s t solution
  pub scratch : IsScratch s t (front_of solution) solution.best

-- the version that a draft and its solution come to
abbrev pub closed : Draft → Solution → Snapshot
closed draft solution = record {
  number = draft.number;
  settings = draft.settings;
  entries = draft.entries;
  best = solution.best;
}
