-- What drafts and versions keep, and how the next one comes of it.
use Rattle.std.specs.Prelude.{◌≡◌, ◌++◌, List, Option, Some, None, Vec}
use Rattle.std.specs.Global.{Global}
use Rattle.crew_flights.specs.Fold.{HasTaken, Standing}
use Rattle.crew_flights.specs.Timetable.{Timetable, empty_timetable}
use Rattle.crew_flights.specs.declared.edit.Verdict.{Verdict}
use Rattle.crew_flights.specs.declared.entries.Entry.{Entry}
use Rattle.crew_pairing.specs.Duties.{HasFew}
use Rattle.crew_rules.specs.Settings.{IsChecked}
use Rattle.crew_rules.specs.declared.settings.Settings.{Settings}
use Rattle.crew_plan.specs.Solutions.{Solution}
use Rattle.crew_vector.specs.declared.priced.PricedPairing.{PricedPairing}
use Rattle.crew_version.specs.Drafts.{Draft, IsSolutionOf}
use Rattle.crew_version.specs.Versions.{timetable_of, verdicts_of}
use Rattle.crew_version.specs.declared.search.Earlier.{Earlier}

-- the solution of a timetable, where none stands for the timetable before any entry
abbrev pub IsSolved : Settings → Timetable → Option Solution → Type 0
IsSolved s t None = t ≡ empty_timetable
IsSolved s t (Some solution) = IsSolutionOf s t solution

abbrev pub best_of : Option Solution → Option PricedPairing
best_of None = None
best_of (Some solution) = solution.best

-- what the parts of a draft in memory have in common
pub record IsDrafted (s : Settings) (entries : List Entry) (verdicts : List Verdict)
    (standing : Standing) : Type 0 where
  pub checked : IsChecked s
  pub judged : verdicts ≡ verdicts_of entries
  pub taken : HasTaken entries standing

-- and those of a version
pub record IsKept (draft : Draft) (solution : Option Solution) : Type 0 where
  pub checked : IsChecked draft.settings
  pub few : HasFew draft.settings (timetable_of draft.entries)
  pub solved : IsSolved draft.settings (timetable_of draft.entries) solution

-- a fold gone on with these entries, and their verdicts
abbrev pub FoldsOn : Standing → List Entry → Standing × Vec Verdict Global → Type 0
FoldsOn before entries after = (earlier : List Entry) → HasTaken earlier before
    → HasTaken (earlier ++ entries) after.0
    × (verdicts_of (earlier ++ entries) ≡ verdicts_of earlier ++ after.1.items)

-- the solution of an earlier timetable
abbrev pub IsRightEarlier : Settings → Earlier → Type 0
IsRightEarlier s earlier = HasFew s earlier.timetable.now
    × IsSolutionOf s earlier.timetable.now earlier.solution.now.value
