use Rattle.std.proofs.Common.{◌≡◌, length}
use Rattle.crew_net.proofs.DutyPositions.{HavePositions}
use Rattle.crew_net.proofs.by_rank.departure_positions.Given as goal

-- the duties of the departures so far have their positions
abbrev pub invariant-loop-position : goal.invariant-loop-position
invariant-loop-position l = (length l.positions.items ≡ length l.net.duties) × HavePositions l.net l.position l.positions.items
