-- The cells of a round of the machine, and the marks that stand for them.
use Rattle.std.specs.Prelude.{List, map}
use Rattle.crew_machine.specs.Crew.{DutyNode, Entries}
use Rattle.crew_machine.specs.declared.rounds.Cell.{Cell}
use Rattle.crew_machine.specs.declared.rounds.Cell.TheVariants.{Waiting, Out, Done}
use Rattle.crew_round.specs.declared.mark.Mark.{Mark}
use Rattle.crew_round.specs.declared.mark.Mark.TheVariants as Marked

abbrev pub CrewCells : Type 0
CrewCells = List (DutyNode × Cell Entries)

abbrev pub mark_of : Cell Entries → Mark
mark_of Waiting = Marked.Waiting
mark_of Out = Marked.Out
mark_of (Done entries) = Marked.Done

abbrev pub marks_of : CrewCells → List Mark
marks_of cells = map (λ c. mark_of c.1) cells
