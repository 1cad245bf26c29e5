use Rattle.std.proofs.Common.{List, length, subst, sym}
use Rattle.crew_pairing.specs.declared.vector.PairingVector.{PairingVector}
use Rattle.crew_pool.specs.declared.label_walk.LabelWalk.{LabelWalk}
use Rattle.crew_sweep.specs.Machinery.Passing.{IsSealed}
use Rattle.crew_sweep.proofs.arrivals.arrival_at.Goals as goal

pub arrival_from-requires-clause-sealed : goal.arrival_from-requires-clause-sealed
arrival_from-requires-clause-sealed c = subst (λ (ps : List (List (PairingVector × LabelWalk))). IsSealed c.args.ground.now.net.now (length ps) c.args.place) (sym c.all-pools.ensures) c.requires.sealed
