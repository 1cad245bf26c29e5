use Rattle.std.proofs.Common.{None, subst}
use Rattle.std.specs.Option.{option_map}
use Rattle.crew_job.specs.Jobs.{Job}
use Rattle.crew_job.specs.Shown.{AreReadable}
use Rattle.crew_job.proofs.job.Job.sweep.Goals as goal

pub returns-in-None : goal.returns-in-None
returns-in-None c =
    let i = c.self.inside in
    subst (λ (j : Job). AreReadable j.ground j.base j.rank None) c.self.view_is (subst (λ o. AreReadable i.ground.value i.base i.rank (option_map (λ a. a.value) o)) c.in-None.is c.self.invariant.readable)
