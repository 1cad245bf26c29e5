use Rattle.std.specs.Arc.{arc_value}
use Rattle.std.specs.Global.{Global}
use Rattle.std.specs.declared.sync.Arc.{Arc}
use Rattle.std.proofs.Common.{List}
use Rattle.crew_pairing.specs.declared.vector.PairingVector.{PairingVector}
use Rattle.crew_pool.specs.declared.label_walk.LabelWalk.{LabelWalk}
use Rattle.crew_sweep.specs.Machinery.Mending.{IsOldPool}
use Rattle.crew_sweep.proofs.KeptSteps.{if-carried-is}
use Rattle.crew_sweep.proofs.mending.old_pool.Goals as goal

pub returns-clause-old : goal.returns-clause-old
returns-clause-old c =
    let now = c.carried_pool.new.walks in
    if-carried-is c.carried_pool.result _ (λ (p : Arc (List (PairingVector × LabelWalk)) Global). IsOldPool c.args.earlier.now.sweep.now c.args.ground.now.net.now now c.args.place (arc_value p)) c.carried_pool.ensures.pool
    (λ p has. record { position = c.in-Some.position; at = c.in-Some.ensures; has = has })
