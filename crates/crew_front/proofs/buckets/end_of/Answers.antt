use Rattle.std.proofs.Common.{rules, ltb, leb}
use Rattle.std.proofs.lemmas.List.Sorted.{IsPartitionedBy-leb, IsPartitionPoint-from_clause}
use Rattle.crew_front.proofs.GradeLemmas.{point_is, to_non_decreasing}
use Rattle.std.proofs.lemmas.Bool.{lt-ltb, le-ltb, leb-true, leb-false}
use Rattle.crew_front.proofs.buckets.end_of.Goals as goal

pub returns : goal.returns
returns g c =
    let xs = c.args.values.now in
    let top = c.args.grade in
    let k = IsPartitionPoint-from_clause (λ x. leb x.grade top) xs c.partition_point.result c.partition_point.ensures.partitioned
    (IsPartitionedBy-leb (λ x. x.grade) xs top (to_non_decreasing (λ x. x.grade) xs c.requires)) (λ a r f' q. search rules) in
    point_is (λ x. ltb top x.grade) xs c.partition_point.result c.partition_point.ensures.bound
    (λ i d a b. le-ltb top _ (leb-true _ top (k.0 i d a b)))
    (λ i d a b. lt-ltb top _ (leb-false _ top (k.1 i d a b)))
