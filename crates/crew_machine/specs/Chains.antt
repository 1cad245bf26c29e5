-- How a published version follows another, and what one reader is answered.
use Rattle.std.specs.Prelude.{ℕ, ◌<◌, ◌≤◌, ◌==◌, cond, List, [], ◌∷◌}
use mathlib.Core.List.{IsPrefix}
use Rattle.crew_machine.specs.Rounds.{Version}
use Rattle.crew_machine.specs.Steps.{Act, Ask, Answered, Reply}

-- its number is greater, and its entries begin with those of the one before
pub record Follows {E N F B : Type 0} (before after : Version E N F B) : Type 0 where
  pub rises : before.number < after.number
  pub begins : IsPrefix before.entries after.entries

-- the places of what a reader was answered, one after another
abbrev pub answers_to : {E N I F B : Type 0} → ℕ → List (Act E) → List (Reply E N I F B) → List ℕ
answers_to reader [] replies = []
answers_to reader (act ∷ acts) [] = []
answers_to reader (Ask r ∷ acts) (Answered q place version ∷ replies) =
    cond (r == reader) (place ∷ answers_to reader acts replies) (answers_to reader acts replies)
answers_to reader (act ∷ acts) (reply ∷ replies) = answers_to reader acts replies

-- no number of a list is below the one before it, nor the first below `low`
abbrev pub NeverFalls : ℕ → List ℕ → Type 0
NeverFalls low [] = Unit {0}
NeverFalls low (k ∷ ks) = (low ≤ k) × NeverFalls k ks
