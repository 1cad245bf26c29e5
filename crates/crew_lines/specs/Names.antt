-- Names as they are kept, and the lines that begin with them.
use Rattle.std.specs.Prelude.{◌≡◌, ℕ, nat_lt, ◌&&◌, List, length, Option, Some, None, option_map, take, if◌then◌else◌}
use Rattle.std.specs.Io.BufRead.{drop_through}
use denote.Ref.{Bor}
use Rattle.crew_lines.specs.Bytes.{before}
use Rattle.crew_lines.specs.NameBytes.{is_name}
use Rattle.crew_lines.specs.declared.name.Name.{Name}

abbrev pub bytes_of_name : Name → List ℕ
bytes_of_name name = take name.count name.bytes

-- the NAME and the RECORD of a line: what stands before its first comma, if there is one and this is a
-- name, and what stands after it
abbrev pub split_at_comma : List ℕ → Option (List ℕ × List ℕ)
split_at_comma line =
    let name = before 44 line in
    if nat_lt (length name) (length line) && is_name name then Some (name, drop_through 44 line) else None

-- .. as they are given
abbrev pub parts_of : Name × Bor (List ℕ) → List ℕ × List ℕ
parts_of parts = (bytes_of_name parts.0, parts.1.now)

-- the NAME of a line
abbrev pub name_of_line : List ℕ → Option (List ℕ)
name_of_line line = option_map (λ parts. parts.0) (split_at_comma line)

-- the first 33 bytes of any line have the name of the whole one
abbrev pub BeginningsShowNames : Type 0
BeginningsShowNames = (line : List ℕ) → name_of_line (take 33 line) ≡ name_of_line line
