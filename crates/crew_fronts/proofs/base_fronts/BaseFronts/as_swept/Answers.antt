use Rattle.std.proofs.Common.{◌∙◌, ap, sym, subst}
use Rattle.crew_pairing.specs.Duties.{RiseByKey}
use Rattle.crew_solve.specs.crew_sweep.Sweeps.{BaseSweep}
use Rattle.crew_fronts.specs.Fronts.{IsOfSweep}
use Rattle.crew_fronts.specs.Machinery.Bases.{fronts_of}
use Rattle.crew_fronts.proofs.Sweeps.{of-sweep}
use Rattle.crew_fronts.proofs.base_fronts.BaseFronts.as_swept.Goals as goal

pub returns-in-Swept-clause-some : goal.returns-in-Swept-clause-some
returns-in-Swept-clause-some c =
    let sweep = c.in-Swept.fronts.value in
    let rise = subst (λ (b : BaseSweep). RiseByKey b.net.duties) c.deref.ensures c.net_of.ensures.rise in
    subst (IsOfSweep sweep) (ap fronts_of (sym c.in-Swept.is) ∙ c.self.view_is) (of-sweep sweep rise)
