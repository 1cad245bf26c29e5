use Rattle.std.proofs.Common.{◌≡◌, ◌≤◌, ◌-◌, ℤ, List, rules, subst, take, drop, length, int_le, true, false}
use Rattle.std.specs.Prelude.{int_lt}
use Rattle.std.proofs.lemmas.List.{take_rest}
use Rattle.std.proofs.lemmas.List.Sorted.{IsPartitionPoint-from_clause}
use Rattle.std.specs.List.Sorted.{IsPartitionPoint}
use Rattle.crew_net.proofs.InOrder.{early-moments, late-moments, rise-drop}
use Rattle.crew_net.proofs.Moments.{within}
use Rattle.crew_net.proofs.timeline.window_between.Goals as goal

pub returns : goal.returns
returns c =
    let ms = c.args.moments.now in
    let i = c.partition_point-from.result in
    let n = c.partition_point-count.result in
    let rest : take (length ms - i) (drop i ms) ≡ drop i ms = take_rest ms i in
    let early = IsPartitionPoint-from_clause (λ (x : ℤ). int_lt x c.args.earliest) _ _ c.partition_point-from.ensures.partitioned (early-moments ms c.args.earliest c.requires) (λ a r q k. search rules) in
    let parted = late-moments (drop i ms) c.args.latest (rise-drop ms i c.requires) in
    let late = IsPartitionPoint-from_clause (λ (x : ℤ). int_le x c.args.latest) _ _ c.partition_point-count.ensures.partitioned (rw rest parted) (λ a r q k. search rules) in
    let few : n ≤ length (drop i ms) = rw (← rest) c.partition_point-count.ensures.bound in
    within ms c.args.earliest c.args.latest i n c.partition_point-from.ensures.bound few early
    (subst (λ (l : List ℤ). IsPartitionPoint (λ x. int_le x c.args.latest ≡ true) (λ x. int_le x c.args.latest ≡ false) l n) rest late)
