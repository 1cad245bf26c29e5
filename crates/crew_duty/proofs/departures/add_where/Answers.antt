use Rattle.std.proofs.Common.{append-nil, sym}
use Rattle.crew_duty.proofs.departures.add_where.Goals as goal

pub returns-in_ok-push : goal.returns-in_ok-push
returns-in_ok-push c = rw c.if-holds.true c.in_ok-push.ensures.items

pub returns-else-holds : goal.returns-else-holds
returns-else-holds c = rw c.if-holds.false (sym (append-nil c.args.kept.now.items))
