use Rattle.std.proofs.Common.{◌≡◌, length}
use Rattle.crew_net.proofs.ArrivalPlaces.{AreSoFar}
use Rattle.crew_net.proofs.by_rank.arrival_places.Given as goal

-- the duties of the arrivals so far have their places
abbrev pub invariant-loop-arrival : goal.invariant-loop-arrival
invariant-loop-arrival l =
    (length l.places.items ≡ length l.net.duties) × AreSoFar l.net.duties l.net.arrivals l.arrival l.places.items
