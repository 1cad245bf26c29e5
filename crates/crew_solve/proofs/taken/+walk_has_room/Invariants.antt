use Rattle.std.proofs.Common.{length}
use Rattle.crew_solve.proofs.taken.+walk_has_room.Given as goal

abbrev pub decreases-walk_has_room : goal.decreases-walk_has_room
decreases-walk_has_room l = length l.walk.now
