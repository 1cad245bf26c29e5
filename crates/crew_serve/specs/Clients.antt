-- A client of a service, and what each of its records does, over a log that other clients write too.
use Rattle.std.specs.Prelude.{◌≡◌, ◌⊎◌, ◌<◌, ◌++◌, ◌∷◌, [], ℕ, All, List, Option, Some, None, slice_get}
use Rattle.std.specs.FinMap as map
use Rattle.jiff_tz.specs.PosixText.{TzText}
use Rattle.crew_flights.specs.declared.edit.Edit.{Edit}
use Rattle.crew_flights.specs.declared.edit.Edit.TheVariants as edit
use Rattle.crew_flights.specs.declared.edit.Verdict.{Verdict}
use Rattle.crew_flights.specs.declared.entries.Entry.{Entry}
use Rattle.crew_log.specs.Logs.{Seat, next_entry, with_entry}
use Rattle.crew_machine.specs.Rounds.{last_number}
use Rattle.crew_pairing.specs.Duties.{HasTooMany}
use Rattle.crew_publish.specs.Chain.{Extends, Follows}
use Rattle.crew_records.specs.Faults.{record_number}
use Rattle.crew_records.specs.declared.command.Command.{Command}
use Rattle.crew_records.specs.declared.command.Command.TheVariants.{AddZone, Submit, AddFlight, Retime, Settle, Refuse}
use Rattle.crew_records.specs.declared.fault.RecordFault.{RecordFault}
use Rattle.crew_rules.specs.declared.settings.Settings.{Settings}
use Rattle.crew_serve.specs.declared.waiting.Waiting.{Waiting}
use Rattle.crew_session.specs.Lines.{refused_line, version_line}
use Rattle.crew_session.specs.Questions.{Tells}
use Rattle.crew_session.specs.Verdicts.{verdict_text}
use Rattle.crew_session.specs.Zones.{Zones, clock_at, flight_with, zone_fault}
use Rattle.crew_version.specs.Versions.{IsRight, Snapshot, timetable_of, verdicts_of}

-- where a client stands: the zones that it gave, the version that it saw last, the seat that it has
-- once it has edited, and its edits since its last settle
pub record Client : Type 0 where
  pub zones : Zones
  pub version : Snapshot
  pub seat : Option Seat
  pub waiting : List Waiting

-- a client that has just come, and sees a version
abbrev pub newcomer : Snapshot → Client
newcomer v = record { zones = map.empty; version = v; seat = None; waiting = [] }

-- a version that is seen after another: the same or a later one, right, under the same settings
pub record IsSight (before after : Snapshot) : Type 0 where
  pub extends : Extends before after
  pub right : IsRight after
  pub settings : after.settings ≡ before.settings

-- entries have all of these edits at their places
abbrev pub HaveAll : List Entry → List Waiting → Type 0
HaveAll entries waiting = All (λ w. slice_get entries w.place ≡ Some w.entry) waiting

-- a version settles these edits of a client that saw another before it: it follows that, and has all
-- of them
pub record IsSettledBy (before : Snapshot) (waiting : List Waiting) (after : Snapshot) : Type 0 where
  pub follows : Follows before after
  pub has : HaveAll after.entries waiting

-- ---- what a record of a number does: the client after it, and what is written

abbrev pub Refuses : ℕ → ℕ → Client → Client → List ℕ → Type 0
Refuses number why a b text = (b ≡ a) × (text ≡ refused_line number why)

-- a zone is taken, or refused
abbrev pub AddsZone : Option RecordFault → ℕ → List ℕ → TzText → Client → Client → List ℕ → Type 0
AddsZone None number code zone a b text =
    (b ≡ record a { zones = map.insert a.zones code zone }) × (text ≡ [])
AddsZone (Some fault) number code zone a b text = Refuses number (record_number fault) a b text

-- the seat by which a client edits: its own, or one that is free
abbrev pub EditsBy : Option Seat → Seat → Type 0
EditsBy None seat = Unit {0}
EditsBy (Some own) seat = seat ≡ own

-- an edit is the next entry of its seat, at some place of the log
pub record Enters (number : ℕ) (e : Edit) (a b : Client) (text : List ℕ) : Type 0 where
  pub seat : Seat
  pub by : EditsBy a.seat seat
  pub few : seat.made < 1_000_000
  pub place : ℕ
  pub entered : b ≡ record a {
    seat = Some (with_entry seat);
    waiting = a.waiting
        ++ record { number = number; place = place; entry = next_entry seat e } ∷ [];
  }
  pub written : text ≡ []

-- the seat has made 1,000,000 entries
pub record IsFull (number : ℕ) (a b : Client) (text : List ℕ) : Type 0 where
  pub seat : Seat
  pub by : EditsBy a.seat seat
  pub full : seat.made ≡ 1_000_000
  pub kept : b ≡ record a { seat = Some seat }
  pub written : text ≡ refused_line number 61

abbrev pub Submits : ℕ → Edit → Client → Client → List ℕ → Type 0
Submits number e a b text = Enters number e a b text ⊎ IsFull number a b text
    ⊎ ((a.seat ≡ None) × Refuses number 60 a b text)

-- an edit that needs a report clock
abbrev pub SubmitsAt : Option ℕ → (ℕ → Edit) → ℕ → Client → Client → List ℕ → Type 0
SubmitsAt None e number a b text = Refuses number 73 a b text
SubmitsAt (Some clock) e number a b text = Submits number (e clock) a b text

-- the verdicts on edits, by the records that made them
abbrev pub told_verdicts : List Waiting → List Verdict → List ℕ
told_verdicts [] verdicts = []
told_verdicts (w ∷ ws) verdicts =
    verdict_text w.number (slice_get verdicts w.place) ++ told_verdicts ws verdicts

-- a settle shows a version with all edits of the client
pub record Settles (a b : Client) (text : List ℕ) : Type 0 where
  pub settled : IsSettledBy a.version a.waiting b.version
  pub sight : IsSight a.version b.version
  pub after : b ≡ record a { version = b.version; waiting = [] }
  pub written : text
      ≡ told_verdicts a.waiting (verdicts_of b.version.entries) ++ version_line b.version

-- or it is refused, by the version that is seen then: its entries and more after them have all edits
-- of the client, and come to too many duties; it has the greatest number; or it doesn't settle them
pub record IsCrowded (waiting : List Waiting) (shown : Snapshot) : Type 0 where
  pub more : List Entry
  pub has : HaveAll (shown.entries ++ more) waiting
  pub many : HasTooMany shown.settings (timetable_of (shown.entries ++ more))

abbrev pub IsUnsettled : Client → Snapshot → ℕ → Type 0
IsUnsettled a shown why = ((why ≡ 40) × IsCrowded a.waiting shown)
    ⊎ ((why ≡ 57) × (shown.number ≡ last_number))
    ⊎ ((why ≡ 62) × ¬ (IsSettledBy a.version a.waiting shown))

pub record Declines (number : ℕ) (a b : Client) (text : List ℕ) : Type 0 where
  pub sight : IsSight a.version b.version
  pub after : b ≡ record a { version = b.version }
  pub why : ℕ
  pub cause : IsUnsettled a b.version why
  pub written : text ≡ refused_line number why

-- what is published is under other settings, or can't be read; nothing changes but the version that
-- was seen before
pub record IsBlind (number : ℕ) (a b : Client) (text : List ℕ) : Type 0 where
  pub sight : IsSight a.version b.version
  pub after : b ≡ record a { version = b.version }
  pub why : ℕ
  pub cause : ((why ≡ 63) × ((shown : Snapshot) × Extends a.version shown
      × ¬ (shown.settings ≡ a.version.settings))) ⊎ (why ≡ 65)
  pub written : text ≡ refused_line number why

-- a question is answered by the version that is seen then
pub record Asks (number : ℕ) (question : Command) (a b : Client) (text : List ℕ) : Type 0 where
  pub sight : IsSight a.version b.version
  pub after : b ≡ record a { version = b.version }
  pub told : Tells number question b.version text

-- for want of memory nothing is done: the client is as it was, but that it may have seen a later
-- version, or taken a seat
pub record HasForgone (a b : Client) : Type 0 where
  pub sight : IsSight a.version b.version
  pub zones : b.zones ≡ a.zones
  pub waiting : b.waiting ≡ a.waiting
  pub seat : (b.seat ≡ a.seat) ⊎ (a.seat ≡ None)

abbrev pub IsForgone : Client → Client → Type 0
IsForgone a b = (b ≡ a) ⊎ HasForgone a b

abbrev pub Forgoes : ℕ → Client → Client → List ℕ → Type 0
Forgoes number a b text = IsForgone a b × (text ≡ refused_line number 66)

abbrev pub Does : Settings → ℕ → Command → Client → Client → List ℕ → Type 0
Does s number (AddZone code zone) a b text =
    AddsZone (zone_fault a.zones code) number code zone a b text
Does s number (Submit e) a b text = Submits number e a b text
Does s number (AddFlight id from to dep arr price) a b text =
    SubmitsAt (clock_at s a.zones from dep) (flight_with id from to dep arr price) number a b text
Does s number (Retime id from dep arr) a b text =
    SubmitsAt (clock_at s a.zones from dep) (edit.Retime id from dep arr) number a b text
Does s number Settle a b text =
    Settles a b text ⊎ Declines number a b text ⊎ IsBlind number a b text
Does s number (Refuse fault) a b text = Refuses number (record_number fault) a b text
Does s number question a b text = Asks number question a b text ⊎ IsBlind number a b text

-- it is done, or there is no memory for it
abbrev pub Serves : Settings → ℕ → Command → Client → Client → List ℕ → Type 0
Serves s number command a b text = Does s number command a b text ⊎ Forgoes number a b text
