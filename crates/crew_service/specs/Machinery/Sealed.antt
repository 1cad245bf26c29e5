-- The open round of a board, as its planner sees it.
use Rattle.std.specs.Prelude.{◌≡◌, ◌+◌, Some}
use Rattle.crew_board.specs.Boards.{ShownBoard, ShownRound}
use Rattle.crew_board.specs.crew_version.Versions.{IsRight, Snapshot}

-- a version is what the open round of a board is sealed as
pub record IsSealedOf (board : ShownBoard) (v : Snapshot) : Type 0 where
  pub number : v.number ≡ board.sealed.number + 1
  pub settings : v.settings ≡ board.sealed.settings
  pub round : ShownRound
  pub is_open : board.round ≡ Some round
  pub over : v.entries ≡ round.entries
  pub right : IsRight v
