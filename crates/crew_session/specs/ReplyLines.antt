-- The lines of a schedule's replies.
use Rattle.std.specs.Prelude.{ℕ, ◌+◌, ◌++◌, Bool, true, false, List, [], ◌∷◌, codes, decimal, drop}
use Rattle.crew_flights.specs.Refusals.{number_of}
use Rattle.crew_flights.specs.declared.edit.Verdict.{Verdict}
use Rattle.crew_flights.specs.declared.edit.Verdict.TheVariants.{Accepted, Refused}
use Rattle.crew_machine.specs.Crew.{CrewReply}
use Rattle.crew_machine.specs.Steps.{Pushed, Begun, Busy, Last_version, Too_large, Claimed, None_ready, Was_brought, Not_brought, Given_back, Not_given_back, Abandoned, Sealed, No_round, Not_done, Was_published, Nothing_new, Answered}
use Rattle.crew_machine.specs.declared.rounds.Brought.{Brought}
use Rattle.crew_machine.specs.declared.rounds.Brought.TheVariants.{Stale, Again, Stored}
use Rattle.crew_pairing.specs.Legs.{Leg}
use Rattle.crew_session.specs.Lines.{best_line, key_text}
use Rattle.crew_version.specs.Versions.{verdicts_of}

-- a line with a number between two texts
abbrev pub numbered : List ℕ → ℕ → List ℕ → List ℕ
numbered before number after = before ++ decimal number ++ after

-- a node, by its base and the key of its duty, at the end of a line
abbrev pub node_text : List ℕ → List Leg → List ℕ
node_text base key = base ++ codes " " ++ key_text key ++ codes "\n"

-- what becomes of the result of a job
abbrev pub brought_text : Brought → List ℕ
brought_text Stored = codes " stored\n"
brought_text Again = codes " again\n"
brought_text Stale = codes " stale\n"

-- whether the node of a job waits again
abbrev pub freed_text : Bool → List ℕ
freed_text true = codes " freed\n"
freed_text false = codes " kept\n"

-- whether there was a round
abbrev pub abandoned_line : Bool → List ℕ
abandoned_line true = codes "abandon ok\n"
abandoned_line false = codes "abandon none\n"

-- the verdict on the entry at a place: a line where it is a refusal
abbrev pub place_line : ℕ → Verdict → List ℕ
place_line place Accepted = []
place_line place (Refused why) = numbered (codes "entry ") place
    (numbered (codes " refused ") (number_of why) (codes "\n"))

-- the same of verdicts, from a place on
abbrev pub place_lines : ℕ → List Verdict → List ℕ
place_lines place [] = []
place_lines place (verdict ∷ verdicts) =
    place_line place verdict ++ place_lines (place + 1) verdicts

-- a reply to a step
abbrev pub reply_lines : CrewReply → List ℕ
reply_lines (Pushed place) = numbered (codes "push ") place (codes "\n")
reply_lines Begun = codes "begin ok\n"
reply_lines Busy = codes "begin refused 50\n"
reply_lines Last_version = codes "begin refused 57\n"
reply_lines Too_large = codes "begin refused 40\n"
reply_lines (Claimed number job) =
    numbered (codes "claim ") number (codes " ") ++ node_text job.node.base job.node.duty.key
reply_lines None_ready = codes "claim none\n"
reply_lines (Was_brought number brought) =
    numbered (codes "bring ") number (brought_text brought)
reply_lines (Not_brought number) = numbered (codes "bring ") number (codes " refused 54\n")
reply_lines (Given_back number freed) = numbered (codes "giveback ") number (freed_text freed)
reply_lines (Not_given_back number) =
    numbered (codes "giveback ") number (codes " refused 54\n")
reply_lines (Abandoned was_open) = abandoned_line was_open
reply_lines (Sealed settled version) =
    place_lines settled (drop settled (verdicts_of version.entries))
    ++ numbered (codes "seal ") version.number (codes "\n")
reply_lines No_round = codes "seal refused 53\n"
reply_lines (Not_done node) = codes "seal refused 52 " ++ node_text node.base node.duty.key
reply_lines (Was_published version) =
    numbered (codes "publish ") version.number (codes "\n")
reply_lines Nothing_new = codes "publish refused 55\n"
reply_lines (Answered reader place version) =
    numbered (codes "ask ") reader (numbered (codes " version ") version.number (codes " "))
    ++ best_line version.best
