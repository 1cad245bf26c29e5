use Rattle.std.proofs.Common.{sym, subst}
use Rattle.std.specs.Arc.{arc_value}
use Rattle.crew_pairing.specs.Duties.{RiseByKey}
use Rattle.crew_solve.specs.crew_sweep.Sweeps.{BaseSweep}
use Rattle.crew_fronts.specs.Fronts.{IsOfSweep}
use Rattle.crew_fronts.proofs.Sweeps.{of-sweep}
use Rattle.crew_fronts.proofs.base_fronts.BaseFronts.swept.Goals as goal

pub returns : goal.returns
returns c =
    let sweep = arc_value c.args.fronts in
    let rise = subst (λ (b : BaseSweep). RiseByKey b.net.duties) c.deref.ensures c.net_of.ensures.rise in
    subst (IsOfSweep sweep) (sym c.in_ok-new.ensures.ok) (of-sweep sweep rise)
