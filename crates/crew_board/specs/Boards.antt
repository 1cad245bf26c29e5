-- What a board shows, and the machine's boards that it stands for.
use Rattle.std.specs.Prelude.{◌≡◌, List, Option}
use Rattle.std.specs.Option.{option_map}
use Rattle.crew_board.specs.Cells.{marks_of}
use Rattle.crew_flights.specs.declared.entries.Entry.{Entry}
use Rattle.crew_machine.specs.Crew.{CrewBoard, CrewRound, CrewVersion, crew}
use Rattle.crew_machine.specs.Machinery.Sound.{IsStanding}
use Rattle.crew_round.specs.declared.mark.Mark.{Mark}
use Rattle.crew_rules.specs.declared.settings.Settings.{Settings}
use Rattle.crew_job.specs.crew_version.Versions.{Snapshot}

-- the entries of a round, and a mark for each of its nodes, in node order
pub record ShownRound : Type 0 where
  pub entries : List Entry
  pub marks : List Mark

-- the version that was sealed last, and the round that is open
pub record ShownBoard : Type 0 where
  pub sealed : Snapshot
  pub round : Option ShownRound

-- what is shown of a version, of a round and of a board of the machine
abbrev pub shown_version : Settings → CrewVersion → Snapshot
shown_version s v = record {
  number = v.number;
  settings = s;
  entries = v.entries;
  best = v.best;
}

abbrev pub shown_round : CrewRound → ShownRound
shown_round r = record { entries = r.entries; marks = marks_of r.cells }

abbrev pub shown_board : Settings → CrewBoard → ShownBoard
shown_board s b = record {
  sealed = shown_version s b.sealed;
  round = option_map shown_round b.round;
}

-- a board of the machine for which one stands: it is right, and this is what is shown of it
pub record IsBoardOf (shown : ShownBoard) (b : CrewBoard) : Type 0 where
  pub right : IsStanding (crew shown.sealed.settings) b
  pub shows : shown_board shown.sealed.settings b ≡ shown
