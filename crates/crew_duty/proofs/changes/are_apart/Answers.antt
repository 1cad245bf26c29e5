use Rattle.std.proofs.Common.{rules, ◌≡◌, ℕ, ℤ, int_le, subst, sym, true, false}
use Rattle.std.specs.Prelude.{int_lt}
use Rattle.std.specs.List.Sorted.{IsPartitionPoint}
use Rattle.std.proofs.lemmas.Bool.Decides.{Decides-eqb}
use Rattle.std.proofs.lemmas.List.Sorted.{IsPartitionPoint-from_clause}
use Rattle.crew_duty.proofs.Kept.{apart-at, early-in-time, late-in-time}
use Rattle.crew_duty.proofs.changes.are_apart.Goals as goal

pub returns : goal.returns
returns c = λ yes.
    let minutes = c.args.minutes.now in
    let early = IsPartitionPoint-from_clause (λ (m : ℤ). int_lt m c.args.from) _ _ c.partition_point-before.ensures.partitioned (early-in-time minutes c.args.from c.requires) (λ a r q k. search rules) in
    let late = IsPartitionPoint-from_clause (λ (m : ℤ). int_le m c.args.to) _ _ c.partition_point-by.ensures.partitioned (late-in-time minutes c.args.to c.requires) (λ a r q k. search rules) in
    let same : c.partition_point-before.result ≡ c.partition_point-by.result = (Decides-eqb c.partition_point-before.result c.partition_point-by.result).0 yes in
    apart-at minutes c.args.from c.args.to c.partition_point-before.result early
    (subst (λ (n : ℕ). IsPartitionPoint (λ m. int_le m c.args.to ≡ true) (λ m. int_le m c.args.to ≡ false) minutes n) (sym same) late)
