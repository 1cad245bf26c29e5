use Rattle.std.proofs.Common.{◌≡◌, ◌∙◌, to_z, of_z, w64, arith, sym}
use Rattle.std.specs.Prelude.{◌≤ℤ◌}
use Rattle.std.proofs.lemmas.Int.{ints}
use Rattle.crew_solve.proofs.Flooring.{from-one, from-unasked-one}
use Rattle.crew_solve.proofs.best.floor_with.Goals as goal

pub returns-then-floor-cost-clause-floor : goal.returns-then-floor-cost-clause-floor
returns-then-floor-cost-clause-floor c = λ p cost walk.
    let floor = to_z w64 (of_z w64 c.args.floor) in
    let less : floor ≤ℤ p.cost = omega (arith, ints, c.if-floor-cost.true, cost) in
    from-one c.args.kept.now.beside floor p less

pub returns-then-not-may_pass-clause-floor : goal.returns-then-not-may_pass-clause-floor
returns-then-not-may_pass-clause-floor c = λ p cost walk.
    let whole : to_z w64 (of_z w64 c.args.cost) ≡ c.args.cost = omega (arith, ints) in
    from-unasked-one c.args.kept.now.beside _ p (c.may_pass.ensures c.if-not-may_pass.true p (cost ∙ sym whole) walk)
