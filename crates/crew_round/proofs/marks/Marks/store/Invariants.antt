use Rattle.std.proofs.Common.{ℕ, List, filter, length}
use Rattle.crew_round.specs.Machinery.Cells.{is_undone}
use Rattle.crew_round.specs.Marks.{Reuses, marked}
use Rattle.crew_round.proofs.marks.Marks.store.Given as goal

-- nodes whose work is what it was are marked so far
abbrev pub invariant-loop-next : goal.invariant-loop-next
invariant-loop-next l = (places : List ℕ) × Reuses (marked l.fn.self l.fn.place l.fn.same) places l.self-inside.marking

abbrev pub decreases-loop-next : goal.decreases-loop-next
decreases-loop-next l = length (filter is_undone l.self-inside.marking.marks)
