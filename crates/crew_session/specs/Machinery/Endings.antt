-- How the reading of records ends.
use Rattle.std.specs.Prelude.{◌<◌, ◌≤◌, ℕ, List, length, Option}
use Rattle.std.specs.Io.KnownBytes.{Appends}
use Rattle.crew_records.specs.Fields.{Fields}
use Rattle.crew_session.specs.Writes.{BeginsBy, WritesBy}
use Rattle.crew_session.specs.declared.ending.Ending.{Ending}
use Rattle.crew_session.specs.declared.ending.Ending.TheVariants.{AtEnd, TooManyRecords}

-- they were obeyed and their text is written, or are too many and the first 2,000,000 were
module _ {A : Type 0} (Obeys : ℕ → Fields → A → A → List ℕ → Type 0) where
  abbrev pub HasEndedBy :
      A → List Fields → Option (List ℕ) → Option (List ℕ) → Ending → Type 0
  HasEndedBy a rows old new AtEnd =
      ((text : List ℕ) × Appends old new text × WritesBy Obeys 0 a rows text)
      × (length rows ≤ 2_000_000)
  HasEndedBy a rows old new TooManyRecords =
      BeginsBy Obeys a rows old new × (2_000_000 < length rows)
