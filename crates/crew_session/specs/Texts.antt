-- How far a text was written.
use Rattle.std.specs.Prelude.{◌≡◌, ◌⊎◌, ◌++◌, List, [], ℕ, Option}
use Rattle.std.specs.Io.KnownBytes.{Appends}

-- known bytes grow by a beginning of the text, and by nothing else
abbrev pub AppendsBeginning : Option (List ℕ) → Option (List ℕ) → List ℕ → Type 0
AppendsBeginning before after text = (part : List ℕ) × (rest : List ℕ) × (text ≡ part ++ rest)
    × Appends before after part

-- known bytes stay, or grow by a beginning of a text of this kind
abbrev pub BeginsOne : Option (List ℕ) → Option (List ℕ) → (List ℕ → Type 0) → Type 0
BeginsOne before after Is = Appends before after []
    ⊎ ((text : List ℕ) × Is text × AppendsBeginning before after text)
