use Rattle.std.proofs.Common.{rules, ◌≡◌, ◌≤◌, ◌-◌, ◌∙◌, ℕ, ap, filter, nat_le, nat_lt, subst, take, drop, length, true, false}
use Rattle.std.specs.List.Sorted.{IsPartitionPoint}
use Rattle.std.specs.Ordering.{eq_by_cmp, nat_cmp}
use Rattle.std.proofs.lemmas.List.{take_rest}
use Rattle.std.proofs.lemmas.List.Sorted.{IsPartitionPoint-from_clause}
use Rattle.crew_duty.proofs.TurnRange.{Entries, between-turns, climbs, climbs-drop, early-parted, entries-in-order, late-parted}
use Rattle.crew_duty.proofs.turns.HeldTurns.after.Goals as goal

pub returns : goal.returns
returns c =
    let all = c.entries-all.result.now in
    let held = c.entries-all.ensures in
    let number = c.get-number.result in
    let i = c.partition_point-from.result in
    let n = c.partition_point-count.result in
    let up = climbs all (rw held (entries-in-order c.args.self.now)) in
    let rest : take (length all - i) (drop i all) ≡ drop i all = take_rest all i in
    let early = IsPartitionPoint-from_clause (λ (e : (ℕ × ℕ) × ℕ). nat_lt e.0.0 number) _ _ c.partition_point-from.ensures.partitioned (early-parted all number up) (λ a r q k. search rules) in
    let parted = late-parted (drop i all) number (climbs-drop all i up) in
    let late = IsPartitionPoint-from_clause (λ (e : (ℕ × ℕ) × ℕ). nat_le e.0.0 number) _ _ c.partition_point-count.ensures.partitioned (rw rest parted) (λ a r q k. search rules) in
    let few : n ≤ length (drop i all) = rw (← rest) c.partition_point-count.ensures.bound in
    let found = between-turns all number i n c.partition_point-from.ensures.bound few early
    (subst (λ (l : Entries). IsPartitionPoint (λ e. nat_le e.0.0 number ≡ true) (λ e. nat_le e.0.0 number ≡ false) l n) rest late) in
    rw rest (found ∙ ap (λ (m : ℕ). filter (λ (e : (ℕ × ℕ) × ℕ). eq_by_cmp nat_cmp e.0.0 m) all) c.get-number.ensures.value ∙ ap (filter (λ (e : (ℕ × ℕ) × ℕ). eq_by_cmp nat_cmp e.0.0 c.args.before)) held)
