-- The lines of a reply, as the code has it.
use Rattle.std.specs.Prelude.{ℕ, ◌++◌, List, [], codes, drop}
use Rattle.std.specs.Arc.{arc_value}
use Rattle.crew_core.specs.declared.reply.Reply.{Reply}
use Rattle.crew_core.specs.declared.reply.Reply.TheVariants.{Pushed, Begun, Busy, LastVersion, TooManyDuties, Claimed, NoneReady, Brought, NotBrought, GivenBack, NotGivenBack, Abandoned, Sealed, NoRound, NotDone, Published, NothingNew, Answered}
use Rattle.crew_net.specs.declared.node.Node.{Node}
use Rattle.crew_session.specs.Lines.{best_line}
use Rattle.crew_session.specs.ReplyLines.{abandoned_line, brought_text, freed_text, node_text, numbered, place_lines}
use Rattle.crew_version.specs.Versions.{Snapshot, verdicts_of}

-- the line of a job that is handed out
abbrev pub claim_line : ℕ → Node → List ℕ
claim_line job node =
    numbered (codes "claim ") job (codes " ") ++ node_text node.base node.key

-- the line of what a reader is answered
abbrev pub answer_line : ℕ → Snapshot → List ℕ
answer_line reader version =
    numbered (codes "ask ") reader (numbered (codes " version ") version.number (codes " "))
    ++ best_line version.best

-- of a seal the refusals among the entries
abbrev pub told_refusals : Reply → List ℕ
told_refusals (Sealed settled version) =
    place_lines settled (drop settled (verdicts_of (arc_value version).entries))
told_refusals reply = []

-- the line of each reply; of a seal the last
abbrev pub told_line : Reply → List ℕ
told_line (Pushed place) = numbered (codes "push ") place (codes "\n")
told_line Begun = codes "begin ok\n"
told_line Busy = codes "begin refused 50\n"
told_line LastVersion = codes "begin refused 57\n"
told_line TooManyDuties = codes "begin refused 40\n"
told_line (Claimed job node) = claim_line job node
told_line NoneReady = codes "claim none\n"
told_line (Brought job brought) = numbered (codes "bring ") job (brought_text brought)
told_line (NotBrought job) = numbered (codes "bring ") job (codes " refused 54\n")
told_line (GivenBack job freed) = numbered (codes "giveback ") job (freed_text freed)
told_line (NotGivenBack job) = numbered (codes "giveback ") job (codes " refused 54\n")
told_line (Abandoned was_open) = abandoned_line was_open
told_line (Sealed settled version) =
    numbered (codes "seal ") (arc_value version).number (codes "\n")
told_line NoRound = codes "seal refused 53\n"
told_line (NotDone node) = codes "seal refused 52 " ++ node_text node.base node.key
told_line (Published version) =
    numbered (codes "publish ") (arc_value version).number (codes "\n")
told_line NothingNew = codes "publish refused 55\n"
told_line (Answered reader version) = answer_line reader (arc_value version)

abbrev pub told_lines : Reply → List ℕ
told_lines reply = told_refusals reply ++ told_line reply
