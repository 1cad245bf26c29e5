use Rattle.crew_label.proofs.Indexed.{grouped_last, grouped_more}
use Rattle.crew_label.proofs.Marked.{at_most_between}
use Rattle.crew_label.proofs.index.push_group.Goals as goal

pub returns-clause-held : goal.returns-clause-held
returns-clause-held g c e m h =
    let k = c.in_ok-group.ensures.held e m h in
    grouped_last c.args.groups.now.items c.push.new.self.items c.in_ok-group.group e c.in_ok-push.ensures.items
    (at_most_between c.in_ok-group.group.least k.block.least e.marks (c.in_ok-group.ensures.least k.block k.among) k.below) k

pub returns-clause-stays : goal.returns-clause-stays
returns-clause-stays g c e k =
    grouped_more c.args.groups.now.items c.push.new.self.items c.in_ok-group.group e c.in_ok-push.ensures.items k
