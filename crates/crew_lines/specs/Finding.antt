-- What is found at the front of bytes.
use Rattle.std.specs.Prelude.{◌≡◌, ℕ, ◌≤◌, Bool, List, Option, Some, None, length, take, drop, if◌then◌else◌, ⊤}
use Rattle.std.specs.Io.BufRead.{drop_through}
use Rattle.crew_lines.specs.Bytes.{before}
use Rattle.crew_lines.specs.Lines.{All, Beginning, Told, told_of}
use Rattle.crew_lines.specs.declared.search.Found.{Found}

-- what is told of bytes that are the beginning of a line that is too long, or a line
abbrev pub told_as : Bool → List ℕ → Told
told_as is_long bytes = if is_long then Beginning bytes else All bytes

-- bytes without the rest of a line that is too long
abbrev pub after_long : Bool → List ℕ → List ℕ
after_long is_long bytes = if is_long then drop_through 10 bytes else bytes

-- what was found is within the bytes held, and no longer than a line may be
pub record IsWithin (held : List ℕ) (found : Found) : Type 0 where
  pub short : found.shown ≤ 65_536
  pub shown : found.shown ≤ found.passed
  pub passed : found.passed ≤ length held

-- the first line of bytes that begin with those held is as found
pub record IsFound (held xs : List ℕ) (found : Found) : Type 0 where
  pub told : told_of (before 10 xs) ≡ told_as found.is_long (take found.shown held)
  pub rest : after_long found.is_long (drop found.passed xs) ≡ drop_through 10 xs

-- .. of known bytes
abbrev pub FindsIn : List ℕ → Option (List ℕ) → Found → Type 0
FindsIn held None found = ⊤
FindsIn held (Some xs) found = IsFound held xs found
