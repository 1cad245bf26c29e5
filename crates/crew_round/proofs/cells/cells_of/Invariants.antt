use Rattle.crew_round.proofs.Tallies.{AreMarksTo}
use Rattle.crew_round.proofs.cells.cells_of.Given as goal

-- the places so far have their marks
abbrev pub invariant-loop-place : goal.invariant-loop-place
invariant-loop-place l = AreMarksTo l.done l.place l.cells
