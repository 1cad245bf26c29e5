use Rattle.crew_pool.specs.Machinery.Columns.{NoneBetween}
use Rattle.crew_room.proofs.columns.Columns.next_by_one.Given as goal

-- none so far
abbrev pub invariant-loop-place : goal.invariant-loop-place
invariant-loop-place l = NoneBetween l.self.rows l.marks l.from l.place
