use Rattle.std.proofs.Common.{rules}
use Rattle.crew_step.proofs.job.Job.is_same_node.Goals as goal

pub returns : goal.returns
returns c = search rules
