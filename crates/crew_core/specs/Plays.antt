-- What a play of steps comes to. This is what the engine promises of every interleaving.
use Rattle.std.specs.Prelude.{◌≡◌, ℕ, List, Some, map}
use Rattle.std.specs.Arc.{arc_value}
use Rattle.std.specs.List.{slice_get}
use mathlib.Core.List.{IsPrefix}
use Rattle.crew_board.specs.Boards.{shown_version}
use Rattle.crew_core.specs.Replies.{AreRepliesOf}
use Rattle.crew_core.specs.declared.trace.Trace.{Trace}
use Rattle.crew_machine.specs.Chains.{Follows, NeverFalls, answers_to}
use Rattle.crew_resource.specs.Chains.{IsChain}
use Rattle.crew_machine.specs.Choices.{ChosenRun}
use Rattle.crew_machine.specs.Crew.{CrewAct, CrewReply, CrewState, CrewVersion, IsFromScratch, crew}
use Rattle.crew_machine.specs.Steps.{Answered, pushed_in, start}
use Rattle.crew_resource.specs.Members.{Member}
use Rattle.crew_rules.specs.declared.settings.Settings.{Settings}

-- After any list of edits, under every interleaving of push, begin, claim, bring, give-back,
-- abandon, seal, publish and query steps, each published version's fronts and best pairing are
-- those of enumerating all legal pairings of the timetable and prices that its log entries give;
-- and each query answers from one published version, none older than its reader had seen.
pub record MeetsHeadline (s : Settings) (acts : List CrewAct) (answers : List CrewReply)
    (published : List CrewVersion) : Type 0 where
  -- each published version is from scratch of its entries, which begin what was pushed
  pub scratch : (place : ℕ) (version : CrewVersion) → slice_get published place ≡ Some version
      → IsFromScratch s version
  pub entries : (place : ℕ) (version : CrewVersion) → slice_get published place ≡ Some version
      → IsPrefix version.entries (pushed_in acts)
  -- numbers rise, and each version's entries begin with those of the one before
  pub chain : IsChain Follows published
  -- each answer is a published version, and no reader is answered one before its last
  pub answered : (reader place : ℕ) (version : CrewVersion)
      → Member answers (Answered reader place version)
      → slice_get published place ≡ Some version
  pub never_back : (reader : ℕ) → NeverFalls 0 (answers_to reader acts answers)

-- a run over exactly these acts, with the product's choices: the trace tells its replies, and shows
-- the versions that it published
pub record IsTraceOf (s : Settings) (acts : List CrewAct) (trace : Trace) : Type 0 where
  pub answers : List CrewReply
  pub state : CrewState
  pub run : ChosenRun (crew s) (start (crew s)) acts answers state
  pub replies : AreRepliesOf s trace.replies.items answers
  pub published : map (shown_version s) state.published ≡ map arc_value trace.published.items
  pub headline : MeetsHeadline s acts answers state.published
