use Rattle.crew_pool.proofs.MergeLemmas.{Member-set_out}
use Rattle.crew_sweep.proofs.lanes.put_lane.Goals as goal

pub returns-then-number-len-clause-slides : goal.returns-then-number-len-clause-slides
returns-then-number-len-clause-slides c slide m = Member-set_out c.args.slides.now.items _ c.args.lane.slide slide m
