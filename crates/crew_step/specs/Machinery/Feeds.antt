-- A feed in memory.
use Rattle.std.specs.Prelude.{List, map}
use Rattle.crew_pairing.specs.Legs.{Leg}
use Rattle.crew_pairing.specs.declared.duty.Duty.{Duty}
use Rattle.crew_pairing.specs.declared.vector.PairingVector.{PairingVector}
use Rattle.crew_vector.specs.Locals.{Feed}
use Rattle.crew_step.specs.declared.feed.Predecessor.{Predecessor}

-- a duty with the entries of its front
abbrev pub fed : Predecessor → Duty × List (PairingVector × List (List Leg))
fed p = (p.duty, p.front.value)

abbrev pub feed_of : List Predecessor → Feed
feed_of predecessors = map fed predecessors
