-- What records write, one after another, whatever each of them does.
use Rattle.std.specs.Prelude.{◌≡◌, ◌+◌, ◌≤◌, ℕ, List, [], ◌∷◌, ◌++◌, take, Option}
use Rattle.crew_records.specs.Fields.{Fields}
use Rattle.crew_session.specs.Texts.{AppendsBeginning}

-- by what the record of a number does to where its reading stands, and what it writes
module _ {A : Type 0} (Obeys : ℕ → Fields → A → A → List ℕ → Type 0) where
  -- where so many records came before
  abbrev pub WritesBy : ℕ → A → List Fields → List ℕ → Type 0
  WritesBy number a [] text = text ≡ []
  WritesBy number a (row ∷ rows) text =
      (b : A) × (line : List ℕ) × (rest : List ℕ)
      × Obeys (number + 1) row a b line
      × WritesBy (number + 1) b rows rest × (text ≡ line ++ rest)

  -- where they lead
  abbrev pub LeadsBy : ℕ → A → List Fields → A → Type 0
  LeadsBy number a [] b = a ≡ b
  LeadsBy number a (row ∷ rows) b =
      (c : A) × (line : List ℕ) × Obeys (number + 1) row a c line × LeadsBy (number + 1) c rows b

  -- what was written of these records, obeyed from there on, is a beginning of the text of the
  -- first so many, which are 2,000,000 at most
  pub record BeginsBy (a : A) (rows : List Fields) (before after : Option (List ℕ)) : Type 0 where
    pub count : ℕ
    pub few : count ≤ 2_000_000
    pub text : List ℕ
    pub first : WritesBy 0 a (take count rows) text
    pub begun : AppendsBeginning before after text
