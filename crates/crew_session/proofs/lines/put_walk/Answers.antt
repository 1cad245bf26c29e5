use Rattle.std.proofs.Common.{arith}
use Rattle.std.proofs.lemmas.Grind.{common_steps}
use Rattle.std.proofs.lemmas.List.{drop_all, drop_more}
use Rattle.crew_session.proofs.lines.put_walk.Goals as goal

pub loop-key-preserved : goal.loop-key-preserved
loop-key-preserved c =
    let more = drop_more c.in-Some.others.now c.loop-key.key-index c.key-item.result c.loop-key-test.true in
    grind (arith, common_steps)

pub returns : goal.returns
returns c =
    let none = drop_all c.loop-key.key-index c.in-Some.others.now c.loop-key-test.false in
    grind (arith, common_steps)
