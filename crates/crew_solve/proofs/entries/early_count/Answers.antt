use Rattle.std.proofs.Common.{ℕ, arith, rules}
use Rattle.std.specs.Prelude.{slice_get}
use Rattle.std.proofs.lemmas.List.Sorted.{IsPartitionPoint-from_clause}
use Rattle.crew_solve.proofs.Early.{early-parted}
use Rattle.crew_solve.specs.Machinery.Early.{is_early}
use Rattle.crew_solve.proofs.entries.early_count.Goals as goal

pub returns-clause-early : goal.returns-clause-early
returns-clause-early c = λ k l.
    let gs = c.args.departures.now in
    let at = c.args.instant in
    (IsPartitionPoint-from_clause (λ (p : ℕ). is_early at (slice_get gs p)) _ _ c.partition_point.ensures.partitioned (early-parted gs c.args.places.now at c.requires) (λ a r q j. search rules)).0 k 0 (omega arith) l
