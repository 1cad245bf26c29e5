use Rattle.std.proofs.Common.{map}
use Rattle.crew_net.specs.Machinery.Moments.{keyed_slot}
use Rattle.crew_net.proofs.Moments.{SoFar}
use Rattle.crew_net.proofs.timeline.moments_of.Given as goal

abbrev pub invariant-loop-place : goal.invariant-loop-place
invariant-loop-place l = SoFar (map keyed_slot l.keys) l.place l.moments.items l.starts.items
