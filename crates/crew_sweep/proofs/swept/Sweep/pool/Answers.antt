use Rattle.std.proofs.Common.{◌<◌, length, subst}
use Rattle.crew_anchor.specs.Stages.{anchored_resource}
use Rattle.crew_sweep.specs.Machinery.Kept.{AreKept}
use Rattle.crew_sweep.specs.Sweeps.{BaseSweep}
use Rattle.crew_sweep.proofs.Keeping.{kept-at}
use Rattle.crew_sweep.proofs.swept.Sweep.pool.Goals as goal

pub returns-clause-kept : goal.returns-clause-kept
returns-clause-kept c =
    let labels = c.get.result.now in
    subst (λ (b : BaseSweep). c.args.index < length b.net.by_report → AreKept (anchored_resource b.net.settings b.price) (length b.net.duties) b.walks labels) c.self.view_is
    (λ h. kept-at _ c.self.inside.resource c.self.invariant c.args.index labels h c.get.ensures) c.requires
