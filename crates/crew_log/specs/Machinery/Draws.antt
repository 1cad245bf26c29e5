-- The history of what was drawn, and the rule over it and the counter of places.
use Rattle.std.specs.Prelude.{◌≡◌, ◌==◌, ◌+◌, ◌++◌, ℕ, zero, suc, List, [], ◌∷◌, length, true, MatchBool}
use Rattle.logbook.specs.Pages.{Cell, cell, Step, View}

-- the first places, so many, in order and with none left out
abbrev pub first_places : ℕ → List ℕ
first_places zero = []
first_places (suc n) = first_places n ++ n ∷ []

-- there is one counter, and what was drawn are the places below it, each once and in order
pub record AreDrawn (cells : List Cell) (log : List ℕ) : Type 0 where
  pub wide : length cells ≡ 1
  pub home : (cell cells 0).1 ≡ true
  pub drawn : log ≡ first_places (cell cells 0).0

-- where the counter was at the place, the place is drawn now, right after those below it
abbrev pub Drew : Step ℕ → View ℕ ℕ → ℕ → View ℕ ℕ → Type 0
Drew s v found w = MatchBool (found == s.old) (w.0 ≡ first_places (s.old + 1)) (Unit {0})
