use Rattle.std.proofs.Common.{sym, subst}
use Rattle.crew_pool.specs.Counted.{AreWhole}
use Rattle.crew_solve.proofs.Boarded.{are-whole}
use Rattle.crew_solve.proofs.SameLabels.{pool-readable}
use Rattle.crew_solve.specs.Machinery.Keyed.{AreReadable}
use Rattle.crew_solve.proofs.best.floor_at.Goals as goal

pub floor_of-requires-clause-readable : goal.floor_of-requires-clause-readable
floor_of-requires-clause-readable c =
    let b = c.args.sweep.now in
    subst (AreReadable b) (sym c.as_slice.ensures.all) (pool-readable b c.pool-pool.result.now c.pool-pool.ensures.kept)

pub floor_of-requires-clause-whole : goal.floor_of-requires-clause-whole
floor_of-requires-clause-whole c = subst AreWhole (sym c.as_slice.ensures.all) (are-whole _ _ _ c.pool-pool.result.now c.pool-pool.ensures.kept)
