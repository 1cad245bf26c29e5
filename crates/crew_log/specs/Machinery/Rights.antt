-- The history of what was claimed, and the rule over it and the counters of the seats.
use Rattle.std.specs.Prelude.{◌≡◌, ◌==◌, ◌<◌, ◌+◌, ℕ, List, [], ◌∷◌, length, slice_index_or, Option, Some, None, cond, ◌&&◌, true, MatchBool}
use Rattle.logbook.specs.Pages.{Book, Cell, cell, Named, Step, View}
use Rattle.crew_flights.specs.declared.entries.Entry.{Entry}
use Rattle.crew_log.specs.declared.rights.Claim.{Claim}
use Rattle.crew_log.specs.Machinery.Draws.{first_places}

-- the place that was claimed first for a number of a seat
abbrev pub place_of : List Claim → ℕ → ℕ → Option ℕ
place_of [] seat number = None
place_of (c ∷ cs) seat number =
    cond ((c.seat == seat) && (c.number == number)) (Some c.place) (place_of cs seat number)

-- each number that was claimed is below the counter of its seat
abbrev pub AllBelow : List Cell → List Claim → Type 0
AllBelow cells [] = Unit {0}
AllBelow cells (c ∷ cs) = (c.number < (cell cells c.seat).0) × AllBelow cells cs

-- there are 64 counters, and what was claimed is below them
pub record IsKept (cells : List Cell) (log : List Claim) : Type 0 where
  pub wide : length cells ≡ 64
  pub home : (seat : ℕ) → seat < 64 → (cell cells seat).1 ≡ true
  pub below : AllBelow cells log

-- where the counter was at the number, the place is now that of the number
abbrev pub Claimed : Step Claim → View Claim ℕ → ℕ → View Claim ℕ → Type 0
Claimed s v found w =
    MatchBool (found == s.old) (place_of w.0 s.ask.seat s.ask.number ≡ Some s.ask.place) (Unit {0})

-- the counter of a seat
abbrev pub counter_of : Book → ℕ → Named
counter_of book seat = record { tracked = true; key = seat; book = book }

-- the counters of so many seats
abbrev pub AreCounters : Book → ℕ → List Named → Type 0
AreCounters book count counters =
    (length counters ≡ count)
    × ((seat : ℕ) (d : Named) → seat < count → slice_index_or counters seat d ≡ counter_of book seat)

-- what tells a log's two histories from others: that of what was claimed, and that of what was drawn
abbrev pub names_of : Book → Book → List ℕ
names_of claims draws =
    claims.number ∷ claims.log_name ∷ claims.cells_name
    ∷ draws.number ∷ draws.log_name ∷ draws.cells_name ∷ []

-- by the histories of these names, an entry stands at the place of its number, and that place was
-- drawn right after those below it
abbrev pub IsInPlace : List ℕ → ℕ → Book → List Claim → Book → List ℕ → Entry → Type 0
IsInPlace tag place claims claimed draws drawn entry =
    (names_of claims draws ≡ tag)
    × (place_of claimed entry.seat entry.number ≡ Some place)
    × (drawn ≡ first_places (place + 1))
