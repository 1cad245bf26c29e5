use Rattle.std.proofs.Common.{◌≡◌, take}
use Rattle.crew_job.specs.Jobs.{Job}
use Rattle.crew_job.specs.Shown.{IsLeftOf}
use Rattle.crew_resource.specs.Members.{Member}
use Rattle.crew_job.proofs.done_lot.work_lot.Given as goal

-- the jobs so far are done, in order, and what is known of a departure is so on the ground of all
abbrev pub invariant-loop-job : goal.invariant-loop-job
invariant-loop-job l = (l.results.items ≡ take l.job-index l.jobs)
    × ((job : Job) → Member l.jobs job → IsLeftOf job.ground l.left)
