use Rattle.std.proofs.Common.{◌≡◌, ◌-ℤ◌, ◌*ℤ◌, ◌∙◌, ℤ, pos, ap, arith, of_z, to_z, w64}
use Rattle.std.proofs.lemmas.Int.{ints}
use Rattle.crew_vector.proofs.amounts.elapsed_less_price.Goals as goal

pub returns-clause-value : goal.returns-clause-value
returns-clause-value c =
    let duty = c.args.duty.now in
    let elapsed : (to_z w64 (of_z w64 c.from-2.result) -ℤ to_z w64 (of_z w64 c.from.result)) ≡ duty.release -ℤ duty.report = omega (arith, ints) in
    let points : c.rated-points.result ≡ pos c.args.rate *ℤ (duty.release -ℤ duty.report) = c.rated-points.ensures.value ∙ ap (λ (z : ℤ). pos c.args.rate *ℤ z) elapsed in
    omega (arith, ints)

pub returns-clause-least : goal.returns-clause-least
returns-clause-least c = omega (arith, ints)

pub returns-clause-most : goal.returns-clause-most
returns-clause-most c = omega (arith, ints)
