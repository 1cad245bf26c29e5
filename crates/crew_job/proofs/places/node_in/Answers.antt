use Rattle.std.proofs.Common.{◌≡◌, ◌<◌, ◌≤◌, ◌/◌, ◌%◌, length, arith, subst, ℕ}
use Rattle.std.proofs.Math.Nat.{mul_comm}
use Rattle.crew_job.proofs.NodePlaces.{no-nodes, node-past}
use Rattle.crew_job.proofs.places.node_in.Goals as goal

pub returns-then-count-eq0 : goal.returns-then-count-eq0
returns-then-count-eq0 c = no-nodes c.args.net.now c.args.place (omega (arith, c.duty_count-count.ensures.count))

pub returns-else-base-base_count : goal.returns-else-base-base_count
returns-else-base-base_count c =
    let n = length c.args.net.now.duties in
    let count : c.duty_count-count.result ≡ n = c.duty_count-count.ensures.count in
    let some : 0 < n = omega (arith, count, c.if-count-eq0.false) in
    let past : c.base_count.result ≤ c.args.place / c.duty_count-count.result = c.if-base-base_count.false in
    let here : length c.args.net.now.bases ≤ c.args.place / n = subst (λ (k : ℕ). length c.args.net.now.bases ≤ c.args.place / k) count (omega (arith, past, c.base_count.ensures.count)) in
    let turned = mul_comm n (c.args.place / n) in
    node-past c.args.net.now c.args.place (c.args.place / n) (c.args.place % n) (omega (arith, turned)) (omega (arith, some)) here
