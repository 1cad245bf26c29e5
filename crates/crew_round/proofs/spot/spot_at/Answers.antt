use Rattle.crew_round.proofs.Places.{spot-there}
use Rattle.crew_round.proofs.spot.spot_at.Goals as goal

pub returns-clause-spot : goal.returns-clause-spot
returns-clause-spot c = spot-there c.args.net.now c.args.arrivals.now c.args.place c.duty_count-count.result c.duty_count-count.ensures.count c.requires.place c.requires.arrivals
