use Rattle.std.proofs.Common.{◌≡◌, ◌∙◌, pos, ◌+ℤ◌, ◌-ℤ◌, ◌*ℤ◌, to_z, of_z, w64, arith}
use Rattle.std.proofs.lemmas.Int.{ints, to_z-of_z}
use Rattle.crew_pairing.specs.Vectors.{reduced_cost}
use Rattle.crew_fronts.proofs.crew_solve_lemmas.Amounts.{product-fits, same-priced, sum-fits, within-fits}
use Rattle.crew_plan.proofs.homes.priced.Goals as goal

pub overflow_mul-prices : goal.overflow_mul-prices
overflow_mul-prices c =
    let v = c.args.sums.now in
    let p : to_z w64 (of_z w64 c.from.result) ≡ pos c.args.trip_rig = omega (arith, ints) in
    let q : to_z w64 (of_z w64 v.away) ≡ v.away = omega (arith, ints) in
    rw (p, q) (product-fits (pos c.args.trip_rig *ℤ v.away) v.trip_rig c.requires.prices c.requires.rig)

pub overflow_sub-prices : goal.overflow_sub-prices
overflow_sub-prices c =
    let v = c.args.sums.now in
    let p : to_z w64 (of_z w64 c.from.result) ≡ pos c.args.trip_rig = omega (arith, ints) in
    let q : to_z w64 (of_z w64 v.away) ≡ v.away = omega (arith, ints) in
    let r : to_z w64 (of_z w64 v.trip_rig) ≡ v.trip_rig = omega (arith, ints) in
    let m = to_z-of_z w64 (pos c.args.trip_rig *ℤ v.away) (product-fits (pos c.args.trip_rig *ℤ v.away) v.trip_rig c.requires.prices c.requires.rig) in
    rw (p, q, m, r) (within-fits (pos c.args.trip_rig *ℤ v.away -ℤ v.trip_rig) c.requires.prices)

pub overflow_add-result : goal.overflow_add-result
overflow_add-result c =
    let v = c.args.sums.now in
    let p : to_z w64 (of_z w64 c.from.result) ≡ pos c.args.trip_rig = omega (arith, ints) in
    let q : to_z w64 (of_z w64 v.away) ≡ v.away = omega (arith, ints) in
    let r : to_z w64 (of_z w64 v.trip_rig) ≡ v.trip_rig = omega (arith, ints) in
    let x = pos c.args.trip_rig *ℤ v.away in
    let m = to_z-of_z w64 x (product-fits x v.trip_rig c.requires.prices c.requires.rig) in
    let n = to_z-of_z w64 (x -ℤ v.trip_rig) (within-fits (x -ℤ v.trip_rig) c.requires.prices) in
    let k : to_z w64 (of_z w64 c.reduced_cost-cost.result) ≡ c.reduced_cost-cost.result = omega (arith, ints) in
    rw (p, q, m, r, n, k, c.reduced_cost-cost.ensures) (sum-fits (reduced_cost v) (x -ℤ v.trip_rig) c.requires.cost c.requires.prices)

pub returns : goal.returns
returns c =
    let v = c.args.sums.now in
    let p : to_z w64 (of_z w64 c.from.result) ≡ pos c.args.trip_rig = omega (arith, ints) in
    let q : to_z w64 (of_z w64 v.away) ≡ v.away = omega (arith, ints) in
    let r : to_z w64 (of_z w64 v.trip_rig) ≡ v.trip_rig = omega (arith, ints) in
    let x = pos c.args.trip_rig *ℤ v.away in
    let m = to_z-of_z w64 x (product-fits x v.trip_rig c.requires.prices c.requires.rig) in
    let n = to_z-of_z w64 (x -ℤ v.trip_rig) (within-fits (x -ℤ v.trip_rig) c.requires.prices) in
    let k : to_z w64 (of_z w64 c.reduced_cost-cost.result) ≡ reduced_cost v = (let j : to_z w64 (of_z w64 c.reduced_cost-cost.result) ≡ c.reduced_cost-cost.result = omega (arith, ints) in j) ∙ c.reduced_cost-cost.ensures in
    let s = to_z-of_z w64 (reduced_cost v +ℤ (x -ℤ v.trip_rig)) (sum-fits (reduced_cost v) (x -ℤ v.trip_rig) c.requires.cost c.requires.prices) in
    let prices : to_z w64 (of_z w64 (to_z w64 (of_z w64 (to_z w64 (of_z w64 c.from.result) *ℤ to_z w64 (of_z w64 v.away))) -ℤ to_z w64 (of_z w64 v.trip_rig))) ≡ x -ℤ v.trip_rig = rw (p, q, m, r) n in
    same-priced c.args.base c.args.walk _ _ _ _ _ _ k (rw (prices, k) s) q
