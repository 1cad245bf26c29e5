-- Which steps take memory: want of it is answered to no other. So of refusals it comes in the place
-- of one alone, that of too many duties, which can't be counted without memory.
use Rattle.std.specs.Prelude.{◌≡◌, ◌<◌, ℕ, List, Some, None, length, slice_get}
use Rattle.crew_board.specs.Boards.{ShownBoard, ShownRound}
use Rattle.crew_core.specs.Machines.{ShownMachine}
use Rattle.crew_core.specs.declared.step.Step.{Step}
use Rattle.crew_core.specs.declared.step.Step.TheVariants as Asked
use Rattle.crew_machine.specs.Rounds.{last_number}
use Rattle.crew_machine.specs.Steps.{last_of}
use Rattle.crew_board.specs.crew_round.declared.mark.Mark.{Mark}
use Rattle.crew_board.specs.crew_round.declared.mark.Mark.TheVariants.{Done}

-- no round is open, and there is a number after the sealed version's
pub record MayOpen (board : ShownBoard) : Type 0 where
  pub none_open : board.round ≡ None
  pub number_left : board.sealed.number < last_number

-- a round is open, and all its nodes are done
pub record MayClose (board : ShownBoard) : Type 0 where
  pub round : ShownRound
  pub is_open : board.round ≡ Some round
  pub done : (place : ℕ) (mark : Mark) → slice_get round.marks place ≡ Some mark → mark ≡ Done

-- the version that was sealed last isn't the one that was published last
abbrev pub MayPublish : ShownMachine → Type 0
MayPublish old = last_of old.published ≡ Some old.board.sealed → ⊥

-- a step takes memory: a job is brought only if one of its number was handed out, and no round is
-- begun, sealed or published where that is refused
abbrev pub TakesMemory : ShownMachine → Step → Type 0
TakesMemory old (Asked.Push entry) = Unit {0}
TakesMemory old Asked.Begin = MayOpen old.board
TakesMemory old Asked.Claim = Unit {0}
TakesMemory old (Asked.Bring job) = job < length old.jobs
TakesMemory old (Asked.GiveBack job) = ⊥
TakesMemory old Asked.Abandon = ⊥
TakesMemory old Asked.Seal = MayClose old.board
TakesMemory old Asked.Publish = MayPublish old
TakesMemory old (Asked.Ask reader) = Unit {0}
