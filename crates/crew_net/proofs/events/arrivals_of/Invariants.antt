use Rattle.crew_pairing.specs.Events.{arrival_of}
use Rattle.crew_net.specs.Machinery.Held.{arrive_at}
use Rattle.crew_net.proofs.AtMoments.{AtSoFar}
use Rattle.crew_net.proofs.events.arrivals_of.Given as goal

abbrev pub invariant-loop-event : goal.invariant-loop-event
invariant-loop-event l = AtSoFar arrival_of arrive_at l.duties l.arriving.moments.items l.event l.events.items
