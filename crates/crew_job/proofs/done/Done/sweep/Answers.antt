use Rattle.std.proofs.Common.{◌≡◌, Some, subst}
use Rattle.crew_job.proofs.BaseSweeps.{shows-front}
use Rattle.crew_job.specs.Grounds.{data_of}
use Rattle.crew_job.specs.Jobs.{Job, job_node}
use Rattle.crew_job.specs.Shown.{ShowsFrontOf}
use Rattle.crew_machine.specs.Crew.{DutyNode}
use Rattle.crew_job.proofs.done.Done.sweep.Goals as goal

pub returns-clause-shown : goal.returns-clause-shown
returns-clause-shown c =
    let job = c.self.inside.job in
    let b = c.self.inside.sweep.value in
    subst (λ (j : Job). (n : DutyNode) → job_node j ≡ Some n → ShowsFrontOf j.ground.settings (data_of j.ground) n b) c.self.view_is
    (λ n e. shows-front job.ground c.self.invariant.0.right job.base job.rank b n c.self.invariant.0.swept e)
