use Rattle.std.proofs.Common.{sym, subst}
use Rattle.crew_solve.proofs.SameLabels.{pool-readable}
use Rattle.crew_solve.specs.Machinery.Keyed.{AreReadable}
use Rattle.crew_solve.proofs.same_labels.labels_at.Goals as goal

pub returns-then-index-by_report-clause-readable : goal.returns-then-index-by_report-clause-readable
returns-then-index-by_report-clause-readable c =
    let b = c.args.sweep.now in
    subst (AreReadable b) (sym c.as_slice.ensures.all) (pool-readable b c.pool.result.now c.pool.ensures.kept)
