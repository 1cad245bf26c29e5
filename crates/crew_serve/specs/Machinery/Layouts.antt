-- What is left of a text that is laid out byte by byte.
use Rattle.std.specs.Prelude.{ℕ, pred, Bool, true, false, List, [], ◌∷◌, ◌++◌}
use Rattle.std.specs.List.{flat_map}
use Rattle.crew_serve.specs.Answers.{named_line}

-- how many of so many lines begin there, where a line begins there or was begun before
abbrev pub begin_in : Bool → ℕ → ℕ
begin_in true count = count
begin_in false count = pred count

-- lines after a name each, but the first one where it was begun before
abbrev pub begun : List ℕ → List (List ℕ) → List ℕ
begun name [] = []
begun name (line ∷ lines) = line ++ flat_map (named_line name) lines

abbrev pub laid : Bool → List ℕ → List (List ℕ) → List ℕ
laid true name lines = flat_map (named_line name) lines
laid false name lines = begun name lines

-- what stands before a byte: the name, where a line begins there
abbrev pub name_at : Bool → List ℕ → List ℕ
name_at true name = named_line name []
name_at false name = []

abbrev pub one_at : Bool → ℕ
one_at true = 1
one_at false = 0
