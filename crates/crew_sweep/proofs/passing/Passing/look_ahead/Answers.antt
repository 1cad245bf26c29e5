use Rattle.crew_sweep.proofs.Aheads.{ahead-stayed}
use Rattle.crew_sweep.proofs.MadeAhead.{under-way-stayed}
use Rattle.crew_sweep.proofs.passing.Passing.look_ahead.Goals as goal

pub returns-clause-stands : goal.returns-clause-stands
returns-clause-stands g c =
    let begun = c.let_go.new.self in
    let was = begun.arrivals in
    let now = c.put_all.new.self in
    record {
      pools = c.put_all.ensures.pools;
      slides = under-way-stayed c.args.ground.now.net.now begun.passed.walks was.made.items was.pools.items now.made.items now.pools.items c.put_all.ensures.stayed c.in_ok-slid.slid.slides c.in_ok-slid.ensures.slid.under_way;
    }

pub returns-clause-ahead : goal.returns-clause-ahead
returns-clause-ahead g c =
    let begun = c.let_go.new.self in
    let was = begun.arrivals in
    let now = c.put_all.new.self in
    ahead-stayed c.args.ground.now.net.now begun.passed.walks was.made.items was.pools.items now.made.items now.pools.items c.put_all.ensures.stayed c.in_ok-slid.slid.ahead.items c.in_ok-slid.ensures.slid.ahead
