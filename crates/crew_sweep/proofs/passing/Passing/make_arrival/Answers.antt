use Rattle.crew_sweep.proofs.MadeAhead.{under-way-stayed}
use Rattle.crew_sweep.proofs.passing.Passing.make_arrival.Goals as goal

pub returns-clause-stands : goal.returns-clause-stands
returns-clause-stands c =
    let g = c.args.ground.now in
    let was = c.args.self.now in
    let now = c.make.new.self in
    record {
      pools = c.in_ok-make.ensures.pools;
      slides = under-way-stayed g.net.now was.passed.walks was.arrivals.made.items was.arrivals.pools.items now.made.items now.pools.items c.in_ok-make.ensures.stayed was.slides c.requires.stands.slides;
    }
