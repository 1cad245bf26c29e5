use Rattle.std.proofs.Common.{rules, ◌≡◌, ◌≤◌, ◌-◌, List, subst, take, drop, length, int_le, true, false}
use Rattle.std.specs.Prelude.{int_lt}
use Rattle.std.proofs.lemmas.List.{take_rest}
use Rattle.std.proofs.lemmas.List.Sorted.{IsPartitionPoint-from_clause}
use Rattle.std.specs.List.Sorted.{IsPartitionPoint}
use Rattle.crew_duty.specs.declared.departures.Slot.{Slot}
use Rattle.crew_duty.proofs.Slots.{ascend-drop, early-parted, between-points, late-parted}
use Rattle.crew_duty.proofs.departures.slots_between.Goals as goal

pub returns : goal.returns
returns c =
    let slots = c.args.slots.now in
    let i = c.partition_point-from.result in
    let n = c.partition_point-count.result in
    let rest : take (length slots - i) (drop i slots) ≡ drop i slots = take_rest slots i in
    let early = IsPartitionPoint-from_clause (λ (s : Slot). int_lt s.at c.args.earliest) _ _ c.partition_point-from.ensures.partitioned (early-parted slots c.args.earliest c.requires) (λ a r q k. search rules) in
    let parted = late-parted (drop i slots) c.args.latest (ascend-drop slots i c.requires) in
    let late = IsPartitionPoint-from_clause (λ (s : Slot). int_le s.at c.args.latest) _ _ c.partition_point-count.ensures.partitioned (rw rest parted) (λ a r q k. search rules) in
    let few : n ≤ length (drop i slots) = rw (← rest) c.partition_point-count.ensures.bound in
    rw rest (between-points slots c.args.earliest c.args.latest i n c.partition_point-from.ensures.bound few early
    (subst (λ (l : List Slot). IsPartitionPoint (λ s. int_le s.at c.args.latest ≡ true) (λ s. int_le s.at c.args.latest ≡ false) l n) rest late))
