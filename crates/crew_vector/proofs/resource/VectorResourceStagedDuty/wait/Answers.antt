use Rattle.std.proofs.Common.{◌≡◌, pos, ◌+ℤ◌, rules, arith}
use Rattle.std.proofs.lemmas.Int.{ints}
use Rattle.crew_vector.proofs.resource.VectorResourceStagedDuty.wait.Goals as goal

pub returns : goal.returns
returns c =
    let v = c.args.value.now in
    let duty_pay : v.duty_pay +ℤ pos 0 ≡ v.duty_pay = omega (arith, ints) in
    let guarantee : v.guarantee +ℤ pos 0 ≡ v.guarantee = omega (arith, ints) in
    let fdp : v.fdp +ℤ pos 0 ≡ v.fdp = omega (arith, ints) in
    let fly : v.fly +ℤ pos 0 ≡ v.fly = omega (arith, ints) in
    let duties : v.duties +ℤ pos 0 ≡ v.duties = omega (arith, ints) in
    search rules
