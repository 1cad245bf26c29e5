use Rattle.crew_net.proofs.Laid.{AreLaid}
use Rattle.crew_net.proofs.net.Net.layers.Given as goal

-- the duties of the departures so far have their layers
abbrev pub invariant-loop-departure : goal.invariant-loop-departure
invariant-loop-departure l = AreLaid l.self l.departure-index l.layers.items l.next.items
