use Rattle.std.specs.Arc.{arc_value}
use Rattle.crew_sweep.specs.Machinery.Renewing.{IsKeptPool}
use Rattle.crew_sweep.specs.declared.earlier.Kept.{Kept}
use Rattle.crew_sweep.proofs.KeptSteps.{if-carried-is}
use Rattle.crew_sweep.proofs.renewal.kept_pool.Goals as goal

pub returns-clause-kept : goal.returns-clause-kept
returns-clause-kept c =
    let now = c.kept.new.walks in
    if-carried-is c.kept.result _ (λ (k : Kept). IsKeptPool c.args.earlier.now.sweep.now c.args.ground.now.net.now c.args.earlier.now.twins.now c.args.changed.now c.args.alike.now now c.args.place (arc_value k.pool)) c.kept.ensures.pool
    (λ k has. record { position = c.in-Some.position; stands = c.in-Some.ensures; has = has })
