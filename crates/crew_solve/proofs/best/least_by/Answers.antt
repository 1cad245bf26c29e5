use Rattle.std.proofs.Common.{◌≡◌, ◌∙◌, ◌+ℤ◌, ◌-ℤ◌, to_z, of_z, w64, arith}
use Rattle.std.specs.Int.{saturate_signed}
use Rattle.std.proofs.lemmas.Int.{ints}
use Rattle.crew_solve.proofs.best.least_by.Goals as goal

pub returns : goal.returns
returns c =
    let d = c.args.duty.now in
    let own : to_z w64 (of_z w64 c.saturating_add.result) ≡ c.saturating_add.result = omega (arith, ints) in
    let floor : to_z w64 (of_z w64 c.args.floor) ≡ c.args.floor = omega (arith, ints) in
    let adds : to_z w64 (of_z w64 (to_z w64 (of_z w64 c.from.result) -ℤ to_z w64 (of_z w64 d.price))) ≡ d.pay -ℤ d.price = omega (arith, ints) in
    own ∙ (c.saturating_add.ensures ∙ (λ i. saturate_signed w64 (floor i +ℤ adds i)))
