-- How an answer is laid out.
use Rattle.std.specs.Prelude.{ℕ, List, [], ◌∷◌, ◌++◌, codes, decimal, length, if◌then◌else◌}
use Rattle.std.specs.Prelude.{nat_eq}
use Rattle.std.specs.List.{flat_map}

-- a byte and a text of lines after it: an end of line is a line of its own, and any other byte stands
-- before the first line
abbrev pub before_lines : ℕ → List (List ℕ) → List (List ℕ)
before_lines byte [] = (byte ∷ []) ∷ []
before_lines byte (line ∷ lines) =
    if nat_eq byte 10 then (10 ∷ []) ∷ line ∷ lines else (byte ∷ line) ∷ lines

-- the lines of a text, each with its end
abbrev pub lines_of : List ℕ → List (List ℕ)
lines_of [] = []
lines_of (byte ∷ bytes) = before_lines byte (lines_of bytes)

-- the first line of an answer to a client: the number of the version that it is from, and how many
-- lines come
abbrev pub head_line : List ℕ → ℕ → ℕ → List ℕ
head_line name version count =
    name ++ codes " at " ++ decimal version ++ codes " lines " ++ decimal count ++ codes "\n"

-- and each of them, after the client's name
abbrev pub named_line : List ℕ → List ℕ → List ℕ
named_line name line = name ++ codes " " ++ line

-- a text is answered whole; where nothing is told there is no answer
abbrev pub answer_text : List ℕ → ℕ → List ℕ → List ℕ
answer_text name version [] = []
answer_text name version (byte ∷ bytes) =
    head_line name version (length (lines_of (byte ∷ bytes)))
    ++ flat_map (named_line name) (lines_of (byte ∷ bytes))
