use Rattle.std.proofs.Common.{arith}
use Rattle.std.proofs.lemmas.Int.{ints, clamps}
use Rattle.crew_history.proofs.history.minutes_of.Goals as goal

pub returns-clause-minutes : goal.returns-clause-minutes
returns-clause-minutes c =
    let a = c.max.ensures.value in
    let b = c.max-2.ensures.value in
    let d = c.from.ensures in
    let e = c.from-2.ensures in
    omega (arith, ints, clamps, a, b, d, e)

pub returns-clause-most : goal.returns-clause-most
returns-clause-most c =
    let a = c.max.ensures.value in
    let b = c.max-2.ensures.value in
    let d = c.from.ensures in
    let e = c.from-2.ensures in
    omega (arith, ints, clamps, a, b, d, e)
