use Rattle.crew_step.proofs.departure.departure_pool.Goals as goal

pub with_idle-requires-clause-pool : goal.with_idle-requires-clause-pool
with_idle-requires-clause-pool g c = c.in_ok-pool.ensures.counts (g.R.Staged.count_of c.args.resource.now) c.requires.gathered

pub returns-in-None-clause-counts : goal.returns-in-None-clause-counts
returns-in-None-clause-counts g c = c.in_ok-pool.ensures.counts (g.R.Staged.count_of c.args.resource.now) c.requires.gathered
