-- Versions: what the entries of a log come to.
use Rattle.std.specs.Prelude.{◌≡◌, ◌+◌, ℕ, List, [], ◌++◌, Option, None}
use Rattle.crew_plan.specs.crew_answers.Bests.{IsBest}
use Rattle.crew_rules.specs.declared.settings.Settings.{Settings}
use Rattle.crew_flights.specs.Fold.{fold_of}
use Rattle.crew_flights.specs.Timetable.{Timetable}
use Rattle.crew_flights.specs.declared.edit.Verdict.{Verdict}
use Rattle.crew_flights.specs.declared.entries.Entry.{Entry}
use Rattle.crew_pairing.specs.Duties.{HasFew}
use Rattle.crew_vector.specs.declared.priced.PricedPairing.{PricedPairing}

-- what a version shows
pub record Snapshot : Type 0 where
  pub number : ℕ
  pub settings : Settings
  pub entries : List Entry
  pub best : Option PricedPairing

-- the timetable and the verdicts that its entries come to
abbrev pub timetable_of : List Entry → Timetable
timetable_of entries = (fold_of entries).0

abbrev pub verdicts_of : List Entry → List Verdict
verdicts_of entries = (fold_of entries).1

-- the version before any entry
abbrev pub opening : Settings → Snapshot
opening settings = record { number = 0; settings = settings; entries = []; best = None }

-- the next version: so many entries more, and their best
pub record IsNext (before : Snapshot) (entries : List Entry) (after : Snapshot) : Type 0 where
  pub number : after.number ≡ before.number + 1
  pub settings : after.settings ≡ before.settings
  pub grown : after.entries ≡ before.entries ++ entries

-- a version whose entries come to at most 200,000 legal duties, and whose best is the best pairing
-- of their timetable
pub record IsRight (v : Snapshot) : Type 0 where
  pub few : HasFew v.settings (timetable_of v.entries)
  pub least : IsBest v.settings (timetable_of v.entries) v.best
