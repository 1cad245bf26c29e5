-- What a planner keeps, and what a settle does.
use Rattle.std.specs.Prelude.{◌≡◌, ◌<◌, ℕ, suc, All, List, [], ◌∷◌, ◌++◌, length, map}
use mathlib.Core.List.{IsPrefix}
use Rattle.boxcar.specs.Table.{Where}
use Rattle.crew_flights.specs.declared.entries.Entry.{Entry}
use Rattle.crew_log.specs.Logs.{Log, Seat, unused_seat}
use Rattle.crew_rules.specs.declared.settings.Settings.{Settings}
use Rattle.crew_service.specs.Next.{IsNextOver}
use Rattle.crew_board.specs.crew_version.Versions.{Snapshot, opening}

-- a planner: the log that it reads, the version that it has made last, a receipt for each place of the
-- log that it has read, and what it has published
pub record Planning : Type 0 where
  pub log : Log
  pub version : Snapshot
  pub receipts : List (Where Entry)
  pub published : List Snapshot

-- the entries of some receipts, in order
abbrev pub entries_of : List (Where Entry) → List Entry
entries_of receipts = map (λ r. r.value) receipts

-- a planner before any entry, whose version is published
abbrev pub new_planner : Settings → Log → Planning
new_planner s log = record {
  log = log;
  version = opening s;
  receipts = [];
  published = opening s ∷ [];
}

-- seats that have made no entry, numbered from here on
abbrev pub AreSeatsFrom : ℕ → List Seat → Type 0
AreSeatsFrom number [] = Unit {0}
AreSeatsFrom number (seat ∷ seats) = (seat ≡ unused_seat number) × AreSeatsFrom (suc number) seats

-- each of these receipts has a place below a count
abbrev pub AreBelow : ℕ → List (Where Entry) → Type 0
AreBelow count receipts = All (λ r. r.index < count) receipts

-- a settle: the next version, over all that is read now, has an entry at each of these receipts'
-- places, and is published
pub record HasSettled (old : Planning) (wanted : List (Where Entry)) (new : Planning) : Type 0 where
  pub log : new.log ≡ old.log
  pub read : IsPrefix old.receipts new.receipts
  pub next : IsNextOver old.version (entries_of new.receipts) new.version
  pub covers : AreBelow (length new.version.entries) wanted
  pub shown : new.published ≡ old.published ++ new.version ∷ []

-- a settle that is refused: the log may be read on, and all else is as it was
pub record HasPublishedNothing (old : Planning) (new : Planning) : Type 0 where
  pub log : new.log ≡ old.log
  pub read : IsPrefix old.receipts new.receipts
  pub version : new.version ≡ old.version
  pub shown : new.published ≡ old.published
