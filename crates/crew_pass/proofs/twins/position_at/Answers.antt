use Rattle.std.proofs.Common.{arith, ap, inr, length}
use Rattle.crew_net.proofs.Slices.{stands}
use Rattle.crew_pass.proofs.Twinned.{first-leaves}
use Rattle.crew_pass.proofs.twins.position_at.Goals as goal

pub bounds-positions-rank : goal.bounds-positions-rank
bounds-positions-rank c =
    let net = c.args.net.now in
    let events = ap length c.departures.ensures.events in
    let g = stands net.departures c.args.place (omega (arith, c.if-place-departures.false, events)) in
    (first-leaves net c.args.positions.now c.requires g.0 c.leaving.result.now (c.leaving.ensures g.0 g.1) c.in-Some.rank.now c.in-Some.ensures.value).0

pub returns-in-Some-clause-position : goal.returns-in-Some-clause-position
returns-in-Some-clause-position c =
    let net = c.args.net.now in
    let events = ap length c.departures.ensures.events in
    let g = stands net.departures c.args.place (omega (arith, c.if-place-departures.false, events)) in
    inr (g.0, g.1, (first-leaves net c.args.positions.now c.requires g.0 c.leaving.result.now (c.leaving.ensures g.0 g.1) c.in-Some.rank.now c.in-Some.ensures.value).1)
