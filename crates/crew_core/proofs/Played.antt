-- From steps to a play of them.
use Rattle.std.proofs.Common.{◌≡◌, ◌∙◌, List, [], ◌∷◌, ◌++◌, refl, subst}
use mathlib.Core.List.{IsPrefix}
use Rattle.crew_core.proofs.Kept.{run-more}
use Rattle.crew_core.specs.Machines.{IsMachineOf, ShownMachine, settings_of}
use Rattle.crew_core.specs.Plays.{MeetsHeadline}
use Rattle.crew_core.specs.Replies.{AreRepliesOf, IsReplyOf, IsStep}
use Rattle.crew_core.specs.declared.reply.Reply.{Reply}
use Rattle.crew_machine.proofs.Chosen.{chosen_run}
use Rattle.crew_machine.proofs.CrewLaws.{crew-laws, version-from-scratch}
use Rattle.crew_machine.proofs.Logged.{all_logged, run_log}
use Rattle.crew_machine.proofs.Runs.{all_sound, run_answers, run_seen}
use Rattle.crew_machine.specs.Choices.{ChosenRun, ChosenStep}
use Rattle.crew_machine.specs.Crew.{CrewAct, CrewReply, CrewState, crew}
use Rattle.crew_machine.specs.Steps.{start}
use Rattle.crew_rules.specs.Settings.{IsChecked}
use Rattle.crew_rules.specs.declared.settings.Settings.{Settings}

pub replies-more : (s : Settings) (replies : List Reply) (answers : List CrewReply) (reply : Reply) (answer : CrewReply) → AreRepliesOf s replies answers → IsReplyOf s reply answer → AreRepliesOf s (replies ++ reply ∷ []) (answers ++ answer ∷ [])
replies-more s [] [] reply answer h is = (is, tt)
replies-more s [] (a ∷ rest) reply answer h is = absurd h
replies-more s (r ∷ rs) [] reply answer h is = absurd h
replies-more s (r ∷ rs) (a ∷ rest) reply answer h is = (h.0, replies-more s rs rest reply answer h.1 is)

-- what is played so far: a run over these acts, whose replies these are, to a state of the machine
pub record IsPlayed (s : Settings) (acts : List CrewAct) (replies : List Reply) (machine : ShownMachine) : Type 0 where
  pub answers : List CrewReply
  pub state : CrewState
  pub run : ChosenRun (crew s) (start (crew s)) acts answers state
  pub told : AreRepliesOf s replies answers
  pub settings : settings_of machine ≡ s
  pub shows : IsMachineOf machine state

pub played-none : (s : Settings) (machine : ShownMachine) → settings_of machine ≡ s → IsMachineOf machine (start (crew s)) → IsPlayed s [] [] machine
played-none s machine settings shows = record { answers = []; state = start (crew s); run = refl; told = tt; settings = settings; shows = shows }

pub played-more : (s : Settings) (acts : List CrewAct) (replies : List Reply) (old new : ShownMachine) (act : CrewAct) (reply : Reply) → IsPlayed s acts replies old → IsStep old act reply new → IsPlayed s (acts ++ act ∷ []) (replies ++ reply ∷ []) new
played-more s acts replies old new act reply p step =
    let h = step p.state p.shows in
    record {
      answers = p.answers ++ h.answer ∷ [];
      state = h.after;
      run = run-more (crew s) (start (crew s)) p.state h.after acts p.answers act h.answer p.run (subst (λ (z : Settings). ChosenStep (crew z) p.state act h.answer h.after) p.settings h.steps);
      told = replies-more s replies p.answers reply h.answer p.told (subst (λ (z : Settings). IsReplyOf z reply h.answer) p.settings h.tells);
      settings = h.settings ∙ p.settings;
      shows = h.shows;
    }

-- what the laws say of every run holds of this one
pub headline : (s : Settings) → IsChecked s → (acts : List CrewAct) (answers : List CrewReply) (state : CrewState) → ChosenRun (crew s) (start (crew s)) acts answers state → MeetsHeadline s acts answers state.published
headline s checked acts answers state chosen =
    let run = chosen_run (crew s) (start (crew s)) acts answers state chosen in
    let sound = all_sound (crew s) (crew-laws s checked) acts answers state run in
    let logged = all_logged (crew s) acts answers state run in
    let log = run_log (crew s) (start (crew s)) acts answers state run in
    record {
      scratch = λ place version at. version-from-scratch s checked version (sound.published place version at);
      entries = λ place version at. subst (IsPrefix version.entries) log (logged.published place version at);
      chain = sound.chain;
      answered = λ reader place version m. run_answers (crew s) (crew-laws s checked) (start (crew s)) acts answers state reader place version run m;
      never_back = λ reader. run_seen (crew s) (crew-laws s checked) reader (start (crew s)) acts answers state run;
    }
