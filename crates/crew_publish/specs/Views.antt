-- What contracts see of a publisher, its notes, its viewers and their views.
use Rattle.std.specs.Prelude.{◌≡◌, ℕ, List, length}
use Rattle.crew_version.specs.Versions.{Snapshot}
use Rattle.crew_publish.specs.Chain.{Ends, Extends, Follows}
use Rattle.crew_resource.specs.Chains.{IsChain}

-- a publisher: the list of what was published, the first version first
pub record Published : Type 0 where
  pub list : List Snapshot

-- a note of a publication: its version, the number of this, how many entries it has, and the list
-- that it ended
pub record Noted : Type 0 where
  pub version : Snapshot
  pub number : ℕ
  pub count : ℕ
  pub list : List Snapshot

-- a view: a version, and the published list that it ends
pub record Viewed : Type 0 where
  pub version : Snapshot
  pub list : List Snapshot

-- a viewer: the published list that it saw last
pub record Watching : Type 0 where
  pub seen : List Snapshot

-- a version is the last of a chain
abbrev pub IsViewOf : List Snapshot → Snapshot → Type 0
IsViewOf list v = IsChain Follows list × Ends list v

-- the note of the last of a list
abbrev pub note_of : List Snapshot → Snapshot → Noted
note_of list v =
    record { version = v; number = v.number; count = length v.entries; list = list }

-- a note tells the last of a chain
abbrev pub IsNoteOf : List Snapshot → ℕ → ℕ → Type 0
IsNoteOf list number count =
    (v : Snapshot) × IsViewOf list v × (v.number ≡ number) × (length v.entries ≡ count)

-- what a viewer saw last extends the version that it was told of
abbrev pub IsMet : Watching → Snapshot → Type 0
IsMet viewer told = (last : Snapshot) × Ends viewer.seen last × Extends told last
