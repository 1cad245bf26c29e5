use Rattle.std.proofs.Common.{◌≤◌, ◌-◌, length}
use Rattle.crew_pool.specs.Machinery.Columns.{NoneBetween}
use Rattle.crew_room.proofs.columns.Columns.next_at_most.Given as goal

-- none so far
abbrev pub invariant-loop-at : goal.invariant-loop-at
invariant-loop-at l = record {
  onward : l.from ≤ l.at;
  within : l.at ≤ length l.self.rows;
  none : NoneBetween l.self.rows l.marks l.from l.at;
}

abbrev pub decreases-loop-at : goal.decreases-loop-at
decreases-loop-at l = length l.self.rows - l.at
