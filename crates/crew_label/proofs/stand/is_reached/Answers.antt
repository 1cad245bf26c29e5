use Rattle.std.proofs.Common.{sym}
use Rattle.crew_resource.proofs.Members.{Member-get_or}
use Rattle.crew_label.proofs.SeenLabels.{member_label}
use Rattle.crew_label.proofs.stand.is_reached.Goals as goal

pub may_stand-requires-clause-first : goal.may_stand-requires-clause-first
may_stand-requires-clause-first g c =
    let x = c.held-item.result in
    c.requires.counted x.label.now (member_label c.args.others.now x (Member-get_or c.args.others.now c.loop-held.held-index x c.loop-held-test.true (sym c.held-item.is)))
