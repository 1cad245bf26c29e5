use Rattle.std.proofs.Common.{rules, ℕ, nat_lt}
use Rattle.std.proofs.lemmas.List.Sorted.{IsPartitionPoint-from_clause}
use Rattle.crew_carry.proofs.Standing.{after-point, before-point, parted-below}
use Rattle.crew_carry.proofs.places.below.Goals as goal

pub returns-clause-before : goal.returns-clause-before
returns-clause-before c =
    let numbers = c.args.numbers.now in
    let n = c.args.number in
    before-point numbers n c.partition_point.result (IsPartitionPoint-from_clause (λ (k : ℕ). nat_lt k n) _ _ c.partition_point.ensures.partitioned (parted-below numbers n c.requires) (λ a r q k. search rules))

pub returns-clause-after : goal.returns-clause-after
returns-clause-after c =
    let numbers = c.args.numbers.now in
    let n = c.args.number in
    after-point numbers n c.partition_point.result (IsPartitionPoint-from_clause (λ (k : ℕ). nat_lt k n) _ _ c.partition_point.ensures.partitioned (parted-below numbers n c.requires) (λ a r q k. search rules))
