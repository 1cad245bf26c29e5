use Rattle.std.proofs.Common.{◌≤◌, length}
use Rattle.crew_version.proofs.chunks.joining.Given as goal

abbrev pub invariant-loop-stay : goal.invariant-loop-stay
invariant-loop-stay g l = l.stay ≤ length l.chunks

abbrev pub decreases-loop-stay : goal.decreases-loop-stay
decreases-loop-stay g l = l.stay
