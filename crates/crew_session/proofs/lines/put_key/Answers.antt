use Rattle.std.proofs.Common.{arith}
use Rattle.std.proofs.lemmas.Grind.{common_steps}
use Rattle.std.proofs.lemmas.List.{drop_all, drop_more}
use Rattle.crew_session.proofs.lines.put_key.Goals as goal

pub loop-leg-preserved : goal.loop-leg-preserved
loop-leg-preserved c =
    let more = drop_more c.in-Some.others.now c.loop-leg.leg-index c.leg-item.result c.loop-leg-test.true in
    grind (arith, common_steps)

pub returns : goal.returns
returns c =
    let none = drop_all c.loop-leg.leg-index c.in-Some.others.now c.loop-leg-test.false in
    grind (arith, common_steps)
