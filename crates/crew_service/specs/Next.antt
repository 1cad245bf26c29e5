-- The version after another, and when a planner's own round isn't sealed.
use Rattle.std.specs.Prelude.{◌≡◌, ◌⊎◌, ◌+◌, List, None, Some}
use Rattle.crew_board.specs.Boards.{IsBoardOf, ShownBoard, ShownRound}
use Rattle.crew_flights.specs.declared.entries.Entry.{Entry}
use Rattle.crew_board.specs.crew_machine.Crew.{CrewBoard, DutyNode, crew}
use Rattle.crew_board.specs.crew_machine.Rounds.{IsFirstUndone}
use Rattle.crew_board.specs.crew_version.Versions.{IsRight, Snapshot}

-- the next version, over these entries
pub record IsNextOver (before : Snapshot) (entries : List Entry) (after : Snapshot) : Type 0 where
  pub number : after.number ≡ before.number + 1
  pub settings : after.settings ≡ before.settings
  pub over : after.entries ≡ entries
  pub right : IsRight after

-- the open round of a board is one over these entries, after a version with this one's number and
-- settings
pub record IsOwn (board : ShownBoard) (version : Snapshot) (entries : List Entry) : Type 0 where
  pub number : board.sealed.number ≡ version.number
  pub settings : board.sealed.settings ≡ version.settings
  pub round : ShownRound
  pub is_open : board.round ≡ Some round
  pub over : round.entries ≡ entries

-- no round is open, or a node of it isn't done
abbrev pub IsUndone : ShownBoard → CrewBoard → Type 0
IsUndone board b = (b.round ≡ None)
    ⊎ ((n : DutyNode) × IsFirstUndone (crew board.sealed.settings) b n)

-- nothing is sealed: there is no such round, or a node of it isn't done
abbrev pub IsUnsealed : ShownBoard → Snapshot → List Entry → Type 0
IsUnsealed board version entries = (IsOwn board version entries → ⊥)
    ⊎ ((b : CrewBoard) → IsBoardOf board b → IsUndone board b)
