-- What a board keeps: the version is right, and a round that is open is over it.
use Rattle.std.specs.Prelude.{◌≡◌, ◌≤◌, IfSome, Option}
use Rattle.std.specs.Option.{option_map}
use Rattle.crew_board.specs.Boards.{ShownBoard, ShownRound}
use Rattle.crew_board.specs.Machinery.Held.{IsMarkedOver, Marked}
use Rattle.crew_machine.specs.Rounds.{last_number}
use Rattle.crew_rules.specs.Settings.{IsChecked}
use Rattle.crew_job.specs.crew_version.Versions.{IsRight, Snapshot}

-- what is shown of a round, and of a version with a round
abbrev pub shown_marked : Marked → ShownRound
shown_marked r = record { entries = r.ground.entries; marks = r.marks.marks }

abbrev pub board_of : Snapshot → Option Marked → ShownBoard
board_of sealed round = record { sealed = sealed; round = option_map shown_marked round }

-- a round whose marks are right, over a version
pub record IsRoundOver (sealed : Snapshot) (r : Marked) : Type 0 where
  pub over : IsMarkedOver r
  pub same : r.ground.sealed ≡ sealed

pub record IsSettled (sealed : Snapshot) (round : Option Marked) : Type 0 where
  pub checked : IsChecked sealed.settings
  pub right : IsRight sealed
  pub number : sealed.number ≤ last_number
  pub held : IfSome round (IsRoundOver sealed)
