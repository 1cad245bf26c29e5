use Rattle.std.proofs.Common.{◌<◌, subst, sym}
use Rattle.crew_net.proofs.Slices.{stands}
use Rattle.crew_sweep.proofs.Making as making
use Rattle.crew_sweep.proofs.arrivals.Arrivals.make.Goals as goal

pub arrival_at-requires-clause-pools : goal.arrival_at-requires-clause-pools
arrival_at-requires-clause-pools c = (c.args.self.now, c.requires.pools)

pub returns-clause-pools : goal.returns-clause-pools
returns-clause-pools c =
    let g = c.args.ground.now in
    let was = c.args.self.now in
    let passed = c.args.passed.now in
    let is = c.in_ok-pool.ensures in
    let a = stands g.net.now.arrivals c.args.place c.requires.place in
    let marked = subst (λ n. c.args.place < n) (sym c.requires.pools.marks) c.requires.place in
    making.passing-made g.net.now g.positions.now c.requires.ground.passable g.base g.resource passed.walks passed.pools was.made.items was.pools.items c.requires.pools
    c.args.place a.0 a.1 c.requires.sealed is.ranks (is.all a.0 a.1) c.in_ok-pool.pool is.local is.counts (making.unmade-at was.made.items c.args.place c.index.result.now marked c.index.ensures c.if-index.false)

pub returns-clause-stayed : goal.returns-clause-stayed
returns-clause-stayed c =
    let was = c.args.self.now in
    let marked = subst (λ n. c.args.place < n) (sym c.requires.pools.marks) c.requires.place in
    making.made-stays was.made.items was.pools.items c.args.place marked c.in_ok-pool.pool (making.unmade-at was.made.items c.args.place c.index.result.now marked c.index.ensures c.if-index.false)
