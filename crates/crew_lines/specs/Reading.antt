-- What is left of a reader's lines.
use Rattle.std.specs.Prelude.{◌≡◌, ℕ, ◌++◌, List, [], ◌∷◌, Option, Some, None, length, option_map, take, drop, ⊤}
use Rattle.crew_lines.specs.Finding.{after_long, told_as}
use Rattle.crew_lines.specs.Lines.{All, Beginning, Told, told_in}
use Rattle.crew_lines.specs.declared.lines.Line.{Line}
use Rattle.crew_lines.specs.declared.lines.Line.TheVariants as line
use Rattle.crew_lines.specs.declared.lines.Lines.{Lines}

-- what is told of a line that is shown
abbrev pub told_by : Line → Told
told_by (line.Whole bytes) = All bytes.now
told_by (line.Long bytes) = Beginning bytes.now

-- how many bytes are shown
abbrev pub count_of : Line → ℕ
count_of (line.Whole bytes) = length bytes.now
count_of (line.Long bytes) = length bytes.now

-- the known bytes that are left: those after the last line that was found
abbrev pub bytes_left : {R : Type 0} → (R → Option (List ℕ)) → Lines R → Option (List ℕ)
bytes_left remaining lines =
    option_map (λ xs. after_long lines.found.is_long (drop lines.found.passed lines.held ++ xs))
    (remaining lines.reader)

-- .. and what is told of their lines
abbrev pub lines_left : {R : Type 0} → (R → Option (List ℕ)) → Lines R → Option (List Told)
lines_left remaining lines = option_map told_in (bytes_left remaining lines)

-- what is told of the line that was found last
abbrev pub told_last : {R : Type 0} → Lines R → Told
told_last lines = told_as lines.found.is_long (take lines.found.shown lines.held)

-- what is told of known lines begins with this, and loses it
abbrev pub Takes : Option (List Told) → Option (List Told) → Told → Type 0
Takes None after told = ⊤
Takes (Some all) None told = ⊥
Takes (Some all) (Some rest) told = all ≡ told ∷ rest

-- no known line is left
abbrev pub HasNone : Option (List Told) → Type 0
HasNone None = ⊤
HasNone (Some all) = all ≡ []
