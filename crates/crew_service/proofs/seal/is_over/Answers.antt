use Rattle.std.proofs.Common.{◌∙◌, refl, sym, arith}
use Rattle.crew_service.proofs.Seals.{same-list}
use Rattle.crew_service.proofs.seal.is_over.Goals as goal

pub returns : goal.returns
returns c =
    let count = c.count.ensures in
    let same = c.if-count-entries.false in
    let end = c.loop-place-test.false in
    (λ _. same-list c.args.ground.now.entries c.args.entries.now (sym count ∙ same) (λ k l. c.loop-place.invariant k (omega (arith, l, end, same, count))), λ _. refl)
