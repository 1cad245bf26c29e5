-- What a record of a front writes.
use Rattle.std.specs.Prelude.{◌≡◌, ℕ, List, Option}
use Rattle.crew_answers.specs.LongVectors.{LongVector}
use Rattle.crew_pairing.specs.Legs.{Leg}
use Rattle.crew_session.specs.Lines.{front_lines}
use Rattle.crew_version.specs.Fronts.{IsFrontByKey}
use Rattle.crew_version.specs.Versions.{Snapshot, timetable_of}

-- the lines of that front in a version
pub record ShowsFront (base : List ℕ) (key : List Leg) (v : Snapshot) (text : List ℕ) : Type 0 where
  pub front : Option (List (LongVector × List (List Leg)))
  pub exact : IsFrontByKey v.settings (timetable_of v.entries) base key front
  pub written : text ≡ front_lines v.settings base key front
