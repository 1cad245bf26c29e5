use Rattle.std.proofs.Common.{◌≡◌, List, [], length}
use Rattle.crew_pairing.specs.declared.vector.PairingVector.{PairingVector}
use Rattle.crew_pool.specs.declared.label_walk.LabelWalk.{LabelWalk}
use Rattle.crew_resource.specs.Members.{Member}
use Rattle.crew_sweep.proofs.arrivals.Arrivals.new.Given as goal

abbrev pub invariant-loop : goal.invariant-loop
invariant-loop l = (length l.pools.items ≡ l.counter) × ((labels : List (PairingVector × LabelWalk)) → Member l.pools.items labels → labels ≡ [])
