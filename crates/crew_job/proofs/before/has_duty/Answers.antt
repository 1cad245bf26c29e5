use Rattle.crew_job.proofs.FoundDuties.{found-there}
use Rattle.crew_job.proofs.before.has_duty.Goals as goal

pub returns : goal.returns
returns c = found-there c.args.net.now.duties c.args.duty.now c.duty_rank.result c.is_some.result c.is_some.ensures c.duty_rank.ensures
