use Rattle.std.proofs.Common.{◌≡◌, length}
use Rattle.crew_dirty.proofs.Sames.{HavePlaces}
use Rattle.crew_dirty.proofs.places.departure_places.Given as goal

-- the duties of the departures so far have their places
abbrev pub invariant-loop-departure : goal.invariant-loop-departure
invariant-loop-departure l = (length l.places.items ≡ length l.net.duties) × HavePlaces l.net l.departure l.places.items
