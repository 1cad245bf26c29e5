-- What a planner keeps.
use Rattle.std.specs.Prelude.{◌≡◌, ◌≤◌, ◌∷◌, [], ◌++◌}
use mathlib.Core.List.{IsPrefix}
use Rattle.crew_log.specs.Logs.{AreOf, IsRun}
use Rattle.crew_publish.specs.Chain.{Ends}
use Rattle.crew_rules.specs.Settings.{IsChecked}
use Rattle.crew_service.specs.Plans.{Planning, entries_of}
use Rattle.crew_board.specs.crew_version.Versions.{IsRight, Snapshot}

-- a version is at or after another
pub record IsAtOrAfter (earlier later : Snapshot) : Type 0 where
  pub number : earlier.number ≤ later.number
  pub begins : IsPrefix earlier.entries later.entries

-- the receipts are the log's, from its first place on; the version's entries are the first of theirs;
-- what was published last is at or before it
pub record IsPlanning (p : Planning) : Type 0 where
  pub of : AreOf p.log p.receipts
  pub run : IsRun 0 p.receipts
  pub over : IsPrefix p.version.entries (entries_of p.receipts)
  pub right : IsRight p.version
  pub checked : IsChecked p.version.settings
  pub last : Snapshot
  pub ends : Ends p.published last
  pub behind : IsAtOrAfter last p.version

-- the log is read on
pub record HasRead (old new : Planning) : Type 0 where
  pub log : new.log ≡ old.log
  pub version : new.version ≡ old.version
  pub shown : new.published ≡ old.published
  pub read : IsPrefix old.receipts new.receipts

-- a version is published, and the planner's own now
pub record HasShown (old : Planning) (next : Snapshot) (new : Planning) : Type 0 where
  pub log : new.log ≡ old.log
  pub version : new.version ≡ next
  pub receipts : new.receipts ≡ old.receipts
  pub shown : new.published ≡ old.published ++ next ∷ []
