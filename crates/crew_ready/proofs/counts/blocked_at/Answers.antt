use Rattle.std.proofs.Common.{arith}
use Rattle.crew_net.proofs.InTime.{item-at}
use Rattle.crew_ready.proofs.counts.blocked_at.Goals as goal

pub waiting_of-requires-clause-ordered : goal.waiting_of-requires-clause-ordered
waiting_of-requires-clause-ordered c =
    let e = item-at c.args.net.now.departures c.args.departure c.requires.departure in
    (c.window.ensures e.0 e.1).ordered

pub waiting_of-requires-clause-within : goal.waiting_of-requires-clause-within
waiting_of-requires-clause-within c =
    let e = item-at c.args.net.now.departures c.args.departure c.requires.departure in
    let within = (c.window.ensures e.0 e.1).within in
    let long = c.requires.long in
    omega (arith, within, long)
