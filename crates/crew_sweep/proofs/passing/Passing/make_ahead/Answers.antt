use Rattle.crew_sweep.proofs.MadeAhead.{under-way-stayed}
use Rattle.crew_sweep.proofs.passing.Passing.make_ahead.Goals as goal

pub put_all-requires-clause-made : goal.put_all-requires-clause-made
put_all-requires-clause-made g c = (c.in_ok-made.ensures c.args.ground.now c.begin_batch.new.self c.in_ok-all.ensures).1

pub returns-clause-stands : goal.returns-clause-stands
returns-clause-stands g c =
    let begun = c.begin_batch.new.self in
    let was = begun.arrivals in
    let now = c.put_all.new.self in
    record {
      pools = c.put_all.ensures.pools;
      slides = under-way-stayed c.args.ground.now.net.now begun.passed.walks was.made.items was.pools.items now.made.items now.pools.items c.put_all.ensures.stayed begun.slides c.begin_batch.ensures.stands.slides;
    }
