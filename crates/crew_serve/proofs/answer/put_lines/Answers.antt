use Rattle.std.proofs.Common.{◌+◌, arith, drop, slice_index_or}
use Rattle.std.proofs.lemmas.Grind.{common_steps}
use Rattle.std.proofs.lemmas.List.{drop_all, drop_more}
use Rattle.crew_serve.proofs.LayoutFacts.{line-step, none-left}
use Rattle.crew_serve.proofs.answer.put_lines.Goals as goal

pub loop-byte-preserved : goal.loop-byte-preserved
loop-byte-preserved c =
    let more = drop_more c.args.text.now c.loop-byte.byte-index 0 c.loop-byte-test.true in
    let step = line-step c.loop-byte.starts c.args.name.now (slice_index_or c.args.text.now c.loop-byte.byte-index 0) (drop (c.loop-byte.byte-index + 1) c.args.text.now) in
    grind (arith, common_steps)

pub returns : goal.returns
returns c =
    let none = drop_all c.loop-byte.byte-index c.args.text.now c.loop-byte-test.false in
    let left = none-left c.loop-byte.starts c.args.name.now in
    grind (arith, common_steps)
