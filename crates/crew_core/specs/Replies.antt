-- What a step asks of the machine, and what a reply tells of the machine's.
use Rattle.std.specs.Prelude.{◌≡◌, ℕ, List, [], ◌∷◌, Option, Some, None, map}
use Rattle.std.specs.Arc.{arc_value}
use Rattle.crew_board.specs.Boards.{shown_version}
use Rattle.crew_core.specs.Machines.{IsMachineOf, ShownMachine, settings_of}
use Rattle.crew_core.specs.declared.reply.Reply.{Reply}
use Rattle.crew_core.specs.declared.reply.Reply.TheVariants as Told
use Rattle.crew_core.specs.declared.step.Step.{Step}
use Rattle.crew_core.specs.declared.step.Step.TheVariants as Asked
use Rattle.crew_machine.specs.Choices.{ChosenStep}
use Rattle.crew_machine.specs.Crew.{CrewAct, CrewReply, CrewState, DutyNode, crew}
use Rattle.crew_machine.specs.Steps as Machine
use Rattle.crew_net.specs.declared.node.Node.{Node}
use Rattle.crew_rules.specs.declared.settings.Settings.{Settings}

abbrev pub act_of : Step → CrewAct
act_of (Asked.Push entry) = Machine.Push entry
act_of Asked.Begin = Machine.Begin
act_of Asked.Claim = Machine.Claim
act_of (Asked.Bring job) = Machine.Bring job
act_of (Asked.GiveBack job) = Machine.Give_back job
act_of Asked.Abandon = Machine.Abandon
act_of Asked.Seal = Machine.Seal
act_of Asked.Publish = Machine.Publish
act_of (Asked.Ask reader) = Machine.Ask reader

abbrev pub acts_of : List Step → List CrewAct
acts_of steps = map act_of steps

-- a node by the key of its duty
abbrev pub named : DutyNode → Node
named n = record { base = n.base; key = n.duty.key }

-- the reply is the machine's, with the node of a job in place of the job, and with what is shown
-- of a version
abbrev pub IsReplyOf : Settings → Reply → CrewReply → Type 0
IsReplyOf s (Told.Pushed place) (Machine.Pushed k) = place ≡ k
IsReplyOf s Told.Begun Machine.Begun = Unit {0}
IsReplyOf s Told.Busy Machine.Busy = Unit {0}
IsReplyOf s Told.LastVersion Machine.Last_version = Unit {0}
IsReplyOf s Told.TooManyDuties Machine.Too_large = Unit {0}
IsReplyOf s (Told.Claimed job node) (Machine.Claimed k work) = (job ≡ k) × (node ≡ named work.node)
IsReplyOf s Told.NoneReady Machine.None_ready = Unit {0}
IsReplyOf s (Told.Brought job brought) (Machine.Was_brought k b) = (job ≡ k) × (brought ≡ b)
IsReplyOf s (Told.NotBrought job) (Machine.Not_brought k) = job ≡ k
IsReplyOf s (Told.GivenBack job freed) (Machine.Given_back k f) = (job ≡ k) × (freed ≡ f)
IsReplyOf s (Told.NotGivenBack job) (Machine.Not_given_back k) = job ≡ k
IsReplyOf s (Told.Abandoned was_open) (Machine.Abandoned o) = was_open ≡ o
IsReplyOf s (Told.Sealed settled version) (Machine.Sealed k v) = (settled ≡ k)
    × (arc_value version ≡ shown_version s v)
IsReplyOf s Told.NoRound Machine.No_round = Unit {0}
IsReplyOf s (Told.NotDone node) (Machine.Not_done n) = node ≡ named n
IsReplyOf s (Told.Published version) (Machine.Was_published v) = arc_value version
    ≡ shown_version s v
IsReplyOf s Told.NothingNew Machine.Nothing_new = Unit {0}
IsReplyOf s (Told.Answered reader version) (Machine.Answered r place v) = (reader ≡ r)
    × (arc_value version ≡ shown_version s v)
IsReplyOf s reply answer = ⊥

-- each reply is that at its place
abbrev pub AreRepliesOf : Settings → List Reply → List CrewReply → Type 0
AreRepliesOf s [] [] = Unit {0}
AreRepliesOf s (reply ∷ replies) (answer ∷ answers) = IsReplyOf s reply answer
    × AreRepliesOf s replies answers
AreRepliesOf s [] (answer ∷ answers) = ⊥
AreRepliesOf s (reply ∷ replies) [] = ⊥

-- the numbers of refusals
abbrev pub reply_number : Reply → Option ℕ
reply_number Told.Busy = Some 50
reply_number Told.LastVersion = Some 57
reply_number Told.TooManyDuties = Some 40
reply_number (Told.NotBrought job) = Some 54
reply_number (Told.NotGivenBack job) = Some 54
reply_number Told.NoRound = Some 53
reply_number (Told.NotDone node) = Some 52
reply_number Told.NothingNew = Some 55
reply_number reply = None

-- from a state that a machine stands for, one step with the product's choices, the reply of which
-- is told, leads to a state that it stands for
pub record HasStepped (old : ShownMachine) (state : CrewState) (act : CrewAct) (reply : Reply)
    (new : ShownMachine) : Type 0 where
  pub answer : CrewReply
  pub after : CrewState
  pub steps : ChosenStep (crew (settings_of old)) state act answer after
  pub tells : IsReplyOf (settings_of old) reply answer
  pub settings : settings_of new ≡ settings_of old
  pub shows : IsMachineOf new after

-- .. whatever that state is
abbrev pub IsStep : ShownMachine → CrewAct → Reply → ShownMachine → Type 0
IsStep old act reply new = (state : CrewState) → IsMachineOf old state
    → HasStepped old state act reply new
