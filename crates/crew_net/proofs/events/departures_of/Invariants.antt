use Rattle.crew_pairing.specs.Events.{departure_of}
use Rattle.crew_net.specs.Machinery.Held.{leave_at}
use Rattle.crew_net.proofs.AtMoments.{AtSoFar}
use Rattle.crew_net.proofs.events.departures_of.Given as goal

abbrev pub invariant-loop-event : goal.invariant-loop-event
invariant-loop-event l = AtSoFar departure_of leave_at l.duties l.leaving.moments.items l.event l.events.items
