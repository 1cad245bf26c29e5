-- What a machine in code shows, and the states of the machine that it stands for.
use Rattle.std.specs.Prelude.{◌≡◌, List, [], ◌∷◌, map}
use Rattle.crew_board.specs.Boards.{IsBoardOf, ShownBoard, shown_version}
use Rattle.crew_flights.specs.declared.entries.Entry.{Entry}
use Rattle.crew_board.specs.crew_job.Jobs.{IsJobOf, Job}
use Rattle.crew_machine.specs.Choices.{ChosenRun}
use Rattle.crew_machine.specs.Crew.{CrewAct, CrewReply, CrewState, DutyWork, crew}
use Rattle.crew_machine.specs.Steps.{start}
use Rattle.crew_rules.specs.Settings.{IsChecked}
use Rattle.crew_rules.specs.declared.settings.Settings.{Settings}
use Rattle.crew_board.specs.crew_version.Versions.{Snapshot}

-- the log, the board, the jobs that were handed out, and the versions that were published
pub record ShownMachine : Type 0 where
  pub log : List Entry
  pub board : ShownBoard
  pub jobs : List Job
  pub published : List Snapshot

-- the settings of its versions
abbrev pub settings_of : ShownMachine → Settings
settings_of shown = shown.board.sealed.settings

-- each job stands for the work at its place
abbrev pub AreJobsOf : List Job → List DutyWork → Type 0
AreJobsOf [] [] = Unit {0}
AreJobsOf (job ∷ jobs) (work ∷ works) = IsJobOf job work × AreJobsOf jobs works
AreJobsOf [] (work ∷ works) = ⊥
AreJobsOf (job ∷ jobs) [] = ⊥

-- steps with the product's choices lead to it from the start
pub record IsReached (s : Settings) (state : CrewState) : Type 0 where
  pub acts : List CrewAct
  pub replies : List CrewReply
  pub run : ChosenRun (crew s) (start (crew s)) acts replies state

-- a state for which a machine stands: it can be reached, and this is what is shown of it. What
-- readers were answered isn't shown, since the version published last answers each of them.
pub record IsMachineOf (shown : ShownMachine) (state : CrewState) : Type 0 where
  pub checked : IsChecked (settings_of shown)
  pub reached : IsReached (settings_of shown) state
  pub log : state.log ≡ shown.log
  pub board : IsBoardOf shown.board state.board
  pub jobs : AreJobsOf shown.jobs state.jobs
  pub published : map (shown_version (settings_of shown)) state.published ≡ shown.published
