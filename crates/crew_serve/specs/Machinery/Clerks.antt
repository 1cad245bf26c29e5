-- What a client's side of the service keeps, and what its calls come to.
use Rattle.std.specs.Prelude.{◌≡◌, ◌⊎◌, ◌<◌, ℕ, List, Option, Some, None}
use Rattle.crew_flights.specs.declared.edit.Edit.{Edit}
use Rattle.crew_flights.specs.declared.entries.Entry.{Entry}
use Rattle.crew_log.specs.Logs.{Seat, next_entry, with_entry}
use Rattle.crew_machine.specs.Rounds.{last_number}
use Rattle.crew_publish.specs.Chain.{Extends}
use Rattle.crew_publish.specs.Views.{IsMet, Watching}
use Rattle.crew_rules.specs.Settings.{IsChecked}
use Rattle.crew_rules.specs.declared.settings.Settings.{Settings}
use Rattle.crew_serve.specs.Clients.{EditsBy, HaveAll, IsCrowded, IsSettledBy}
use Rattle.crew_serve.specs.declared.client_fault.ClientFault.{ClientFault}
use Rattle.crew_serve.specs.declared.client_fault.ClientFault.TheVariants.{TooManyDuties, LastVersion, NoSeat, SeatFull, Unsettled, OtherSettings, NoView, Memory}
use Rattle.crew_serve.specs.declared.waiting.Waiting.{Waiting}
use Rattle.crew_version.specs.Versions.{IsRight, Snapshot}

-- the service's settings, the version that the client saw last, and its seat
pub record Clerking : Type 0 where
  pub settings : Settings
  pub version : Snapshot
  pub seat : Option Seat

-- its viewer has met that version, which is right, under these settings, and whose number is kept
pub record IsClerk (settings : Settings) (viewer : Watching) (version : Snapshot) (number : ℕ) : Type 0
  where
    pub checked : IsChecked settings
    pub met : IsMet viewer version
    pub right : IsRight version
    pub under : version.settings ≡ settings
    pub numbered : version.number ≡ number

-- an edit became an entry by a seat, which is the client's own from then on
pub record IsEntered (before : Option Seat) (e : Edit) (entry : Entry) (after : Option Seat) : Type 0
  where
    pub seat : Seat
    pub by : EditsBy before seat
    pub few : seat.made < 1_000_000
    pub next : entry ≡ next_entry seat e
    pub own : after ≡ Some (with_entry seat)

-- it didn't
abbrev pub IsNotEntered : Option Seat → Option Seat → ClientFault → Type 0
IsNotEntered before after SeatFull =
    (seat : Seat) × EditsBy before seat × (seat.made ≡ 1_000_000) × (after ≡ Some seat)
IsNotEntered before after NoSeat = (before ≡ None) × (after ≡ before)
IsNotEntered before after Memory = (after ≡ before) ⊎ (before ≡ None)
IsNotEntered before after TooManyDuties = ⊥
IsNotEntered before after LastVersion = ⊥
IsNotEntered before after Unsettled = ⊥
IsNotEntered before after OtherSettings = ⊥
IsNotEntered before after NoView = ⊥

-- a version isn't seen, after another
abbrev pub IsUnseen : Snapshot → ClientFault → Type 0
IsUnseen before OtherSettings =
    (shown : Snapshot) × Extends before shown × ¬ (shown.settings ≡ before.settings)
IsUnseen before NoView = Unit {0}
IsUnseen before Memory = Unit {0}
IsUnseen before SeatFull = ⊥
IsUnseen before NoSeat = ⊥
IsUnseen before TooManyDuties = ⊥
IsUnseen before LastVersion = ⊥
IsUnseen before Unsettled = ⊥

-- a version past a number has all of some edits
pub record IsPast (number : ℕ) (waiting : List Waiting) (v : Snapshot) : Type 0 where
  pub past : number < v.number
  pub has : HaveAll v.entries waiting

-- why a version that is shown doesn't settle some edits
abbrev pub IsJudged : List Waiting → Snapshot → ClientFault → Type 0
IsJudged waiting shown TooManyDuties = IsCrowded waiting shown
IsJudged waiting shown LastVersion = shown.number ≡ last_number
IsJudged waiting shown Unsettled = Unit {0}
IsJudged waiting shown Memory = Unit {0}
IsJudged waiting shown OtherSettings = ⊥
IsJudged waiting shown NoView = ⊥
IsJudged waiting shown SeatFull = ⊥
IsJudged waiting shown NoSeat = ⊥

-- edits aren't settled past a number, by what is shown, which is seen after another version
abbrev pub IsLeft : Snapshot → ℕ → List Waiting → Snapshot → ClientFault → Type 0
IsLeft before number waiting shown TooManyDuties = IsCrowded waiting shown
IsLeft before number waiting shown LastVersion = shown.number ≡ last_number
IsLeft before number waiting shown Unsettled = ¬ (IsPast number waiting shown)
IsLeft before number waiting shown OtherSettings = IsUnseen before OtherSettings
IsLeft before number waiting shown NoView = Unit {0}
IsLeft before number waiting shown Memory = Unit {0}
IsLeft before number waiting shown SeatFull = ⊥
IsLeft before number waiting shown NoSeat = ⊥

-- the same, of a client's own last version
abbrev pub IsNotSettled : Snapshot → List Waiting → Snapshot → ClientFault → Type 0
IsNotSettled before waiting shown TooManyDuties = IsCrowded waiting shown
IsNotSettled before waiting shown LastVersion = shown.number ≡ last_number
IsNotSettled before waiting shown Unsettled = ¬ (IsSettledBy before waiting shown)
IsNotSettled before waiting shown OtherSettings = IsUnseen before OtherSettings
IsNotSettled before waiting shown NoView = Unit {0}
IsNotSettled before waiting shown Memory = Unit {0}
IsNotSettled before waiting shown SeatFull = ⊥
IsNotSettled before waiting shown NoSeat = ⊥
