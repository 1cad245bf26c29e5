use Rattle.std.proofs.Common.{length, subst}
use Rattle.crew_sweep.specs.Machinery.Kept.{keyed_pools, sparing_of}
use Rattle.crew_sweep.specs.Machinery.Numbered.{AreLocal}
use Rattle.crew_sweep.specs.Machinery.Passing.{passed_network}
use Rattle.crew_sweep.specs.Sweeps.{BaseSweep}
use Rattle.crew_sweep.proofs.swept.Sweep.pools.Goals as goal

pub returns-clause-local : goal.returns-clause-local
returns-clause-local c = subst (λ (b : BaseSweep). AreLocal (passed_network b.net b.base (sparing_of b)) (length b.pools) (keyed_pools b)) c.self.view_is c.self.invariant.local
