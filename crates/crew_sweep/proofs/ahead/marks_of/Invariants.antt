use Rattle.std.proofs.Common.{◌≡◌, length}
use Rattle.crew_sweep.proofs.ahead.marks_of.Given as goal

-- there is a mark for each arrival
abbrev pub invariant-loop-position : goal.invariant-loop-position
invariant-loop-position g l = length l.marks.items ≡ length l.ground.net.now.arrivals
