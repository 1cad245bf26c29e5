use Rattle.std.proofs.Common.{refl, ◌∙◌}
use Rattle.crew_label.proofs.Listed.{taken_all, taken_more}
use Rattle.crew_label.proofs.gather.seen_again.Goals as goal

pub loop-each-preserved : goal.loop-each-preserved
loop-each-preserved g c =
    taken_more c.args.seen.now c.loop-each.each-index c.each-item.result c.loop-each.again.items c.push_seen.new.list.items c.loop-each-test.true c.each-item.is c.loop-each.invariant c.in_ok-push_seen.ensures

pub returns : goal.returns
returns g c = c.loop-each.invariant ∙ taken_all c.args.seen.now c.args.seen.now c.loop-each.each-index refl c.loop-each-test.false
