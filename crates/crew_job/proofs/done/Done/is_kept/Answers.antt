use Rattle.std.proofs.Common.{subst}
use Rattle.crew_job.specs.Jobs.{Job}
use Rattle.crew_job.specs.Machinery.Held.{TellsKept}
use Rattle.crew_job.proofs.done.Done.is_kept.Goals as goal

pub returns : goal.returns
returns c = subst (λ (j : Job). TellsKept j c.self.inside.kept) c.self.view_is c.self.invariant.1
