-- What is left of a field that is cut at its dashes, and at its spaces.
use Rattle.std.specs.Prelude.{ℕ, List, [], Option, Some, None}
use Rattle.std.specs.List.{slice_split}
use Rattle.crew_records.specs.Fields.{is_dash, is_space}

-- the texts of the rest, if there is one
abbrev pub texts_of : Option (List ℕ) → List (List ℕ)
texts_of None = []
texts_of (Some rest) = slice_split is_dash rest

abbrev pub spaced_of : Option (List ℕ) → List (List ℕ)
spaced_of None = []
spaced_of (Some rest) = slice_split is_space rest
