use Rattle.std.proofs.Common.{ap, arith, length}
use Rattle.crew_duty.specs.Machinery.Held.{held}
use Rattle.crew_duty.proofs.Blocks.{length-part}
use Rattle.crew_duty.proofs.beside.count_from.Goals as goal

pub overflow_sub-block : goal.overflow_sub-block
overflow_sub-block c =
    let kept = c.in-Some.ensures c.args.plan.now.settings.now (held c.args.plan.now) c.requires.kept c.requires.place in
    omega (arith, kept.0)

pub returns-in-Some : goal.returns-in-Some
returns-in-Some c =
    let block = c.in-Some.block in
    let kept = c.in-Some.ensures c.args.plan.now.settings.now (held c.args.plan.now) c.requires.kept c.requires.place in
    let long = length-part c.args.kept.now.duties.now block.from block.to kept.0 kept.1 in
    omega (arith, c.min.ensures, c.saturating_add.ensures, ap length kept.2, long, kept.0, c.requires.so_far)

pub at-requires : goal.at-requires
at-requires c = (c.args.plan.now.settings.now, held c.args.plan.now, c.requires.kept, c.requires.place)
