-- Logs, their seats, and receipts of entries.
use Rattle.std.specs.Prelude.{◌≡◌, ◌≢◌, ◌+◌, ◌∷◌, ℕ, suc, List, [], All}
use Rattle.boxcar.specs.Table.{Shelves, Shows, Where}
use Rattle.crew_flights.specs.declared.edit.Edit.{Edit}
use Rattle.crew_flights.specs.declared.entries.Entry.{Entry}

-- a log: its row of places, which tells it from other logs, and how many seats were given
pub record Log : Type 0 where
  pub row : Shelves
  pub seats : ℕ

-- a seat: its number, and how many entries it has made
pub record Seat : Type 0 where
  pub number : ℕ
  pub made : ℕ

-- a seat that has made no entry
abbrev pub unused_seat : ℕ → Seat
unused_seat number = record { number = number; made = 0 }

-- the seat that is given next: its number is how many were given
abbrev pub new_seat : Log → Seat
new_seat log = unused_seat log.seats

-- the same row, with one more seat given
abbrev pub with_seat : Log → Log
with_seat log = record log { seats = log.seats + 1 }

-- the entry that a seat makes next: its number is how many the seat has made
abbrev pub next_entry : Seat → Edit → Entry
next_entry seat edit = record { seat = seat.number; number = seat.made; edit = edit }

-- the same seat, with one more entry made
abbrev pub with_entry : Seat → Seat
with_entry seat = record seat { made = seat.made + 1 }

-- a receipt: the place is its index, the entry its value; it is of this log, whose place shows
-- that entry
abbrev pub IsOf : Log → Where Entry → Type 0
IsOf log receipt = Shows log.row receipt

-- receipts of this log
abbrev pub AreOf : Log → List (Where Entry) → Type 0
AreOf log receipts = All (λ receipt. IsOf log receipt) receipts

-- receipts of the places from this one on, with no gap
abbrev pub IsRun : ℕ → List (Where Entry) → Type 0
IsRun from [] = Unit {0}
IsRun from (r ∷ rs) = (r.index ≡ from) × IsRun (suc from) rs

-- none of these receipts has this place
abbrev pub HaveNone : List (Where Entry) → ℕ → Type 0
HaveNone receipts place = All (λ receipt. receipt.index ≢ place) receipts
