use Rattle.std.proofs.Common.{arith}
use Rattle.std.proofs.lemmas.Result.{IfOk-weaker}
use Rattle.std.specs.Arc.{arc_value}
use Rattle.crew_solve.proofs.Swept.{each-made}
use Rattle.crew_sweep.specs.Sweeps.{BaseSweep}
use Rattle.crew_solve.proofs.sweeps.sweep_all.Goals as goal

pub returns : goal.returns
returns g c =
    let made = c.in_ok-made.made in
    IfOk-weaker c.all_made.result _ _ (λ fronts is. each-made (arc_value {X = BaseSweep}) c.args.plan.now made.items fronts.items (omega (arith, c.in_ok-made.ensures.long)) c.in_ok-made.ensures.each is) c.all_made.ensures
