-- What an audit of a version writes.
use Rattle.std.specs.Prelude.{◌≡◌, ◌⊎◌, ◌≤◌, ℕ, List, length}
use Rattle.crew_audit.specs.Partials.{ArePartials, HasMoreThan}
use Rattle.crew_audit.specs.Tallies.{IsTally}
use Rattle.crew_audit.specs.declared.partial.Partial.{Partial}
use Rattle.crew_audit.specs.declared.tally.Tally.{Tally}
use Rattle.crew_session.specs.Lines.{audit_line, refused_line}
use Rattle.crew_version.specs.Versions.{Snapshot, timetable_of}

-- the counts of the partial pairings of its data, where there are no more than a limit
pub record Counts (limit : ℕ) (v : Snapshot) (text : List ℕ) : Type 0 where
  pub partials : List Partial
  pub tally : Tally
  pub all : ArePartials v.settings (timetable_of v.entries) partials
  pub few : length partials ≤ limit
  pub counted : IsTally partials tally
  pub written : text ≡ audit_line tally

-- or that there are more
pub record PassesLimit (limit number : ℕ) (v : Snapshot) (text : List ℕ) : Type 0 where
  pub more : HasMoreThan v.settings (timetable_of v.entries) limit
  pub written : text ≡ refused_line number 45

abbrev pub Audits : ℕ → ℕ → Snapshot → List ℕ → Type 0
Audits limit number v text = Counts limit v text ⊎ PassesLimit limit number v text
