-- How the entries in turn are numbered.
use Rattle.std.specs.Prelude.{◌≡◌, ◌∷◌, ◌<◌, ◌==◌, ℕ, cond, List, [], map, length, slice_index}
use Rattle.std.specs.List.{filter}
use Rattle.crew_flights.specs.Fold.{is_in_turn}
use Rattle.crew_flights.specs.declared.entries.Entry.{Entry}

-- the entries in turn among entries in place order, after earlier ones, the latest first
abbrev pub in_turn_after : List Entry → List Entry → List Entry
in_turn_after earlier [] = []
in_turn_after earlier (e ∷ later) = cond (is_in_turn earlier e)
    (e ∷ in_turn_after (e ∷ earlier) later) (in_turn_after (e ∷ earlier) later)

-- the numbers of a seat's entries in turn, in place order
abbrev pub numbers_in_turn : List Entry → ℕ → List ℕ
numbers_in_turn entries seat = map (λ e. e.number)
    (filter (λ e. e.seat == seat) (in_turn_after [] entries))

-- they are 0, 1, 2, ..
abbrev pub AreNumberedInTurn : Type 0
AreNumberedInTurn = (entries : List Entry) (seat : ℕ) (k : ℕ)
    → k < length (numbers_in_turn entries seat) → slice_index (numbers_in_turn entries seat) k ≡ k
