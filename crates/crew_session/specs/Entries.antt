-- Entries of a log with one seat.
use Rattle.std.specs.Prelude.{ℕ}
use Rattle.crew_flights.specs.declared.edit.Edit.{Edit}
use Rattle.crew_flights.specs.declared.entries.Entry.{Entry}

-- an edit as the entry of a log with one seat, after so many entries
abbrev pub entry_of : ℕ → Edit → Entry
entry_of number edit = record { seat = 0; number = number; edit = edit }
