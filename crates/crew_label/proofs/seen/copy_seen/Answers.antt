use Rattle.std.proofs.Common.{refl, ◌∙◌}
use Rattle.crew_label.specs.declared.seen.Seen.{Seen}
use Rattle.crew_label.proofs.Listed.{mapped_all, mapped_more}
use Rattle.crew_label.proofs.seen.copy_seen.Goals as goal

pub loop-each-preserved : goal.loop-each-preserved
loop-each-preserved g c =
    mapped_more (λ (s : Seen g.row.R-Value.Denot). s.label.now) c.args.seen.now c.loop-each.each-index c.each-item.result
    c.loop-each.labels.items c.push_copy.new.labels.items c.loop-each-test.true c.each-item.is c.loop-each.invariant c.in_ok-push_copy.ensures

pub returns : goal.returns
returns g c = c.loop-each.invariant ∙ mapped_all (λ (s : Seen g.row.R-Value.Denot). s.label.now) c.args.seen.now c.args.seen.now c.loop-each.each-index refl c.loop-each-test.false
