use Rattle.std.proofs.Common.{rules, subst, sym}
use Rattle.crew_job.specs.Jobs.{Job}
use Rattle.crew_job.specs.Machinery.Held.{TellsKept}
use Rattle.crew_job.proofs.done.done_by.Goals as goal

pub invariant_of-result : goal.invariant_of-result
invariant_of-result c = (
  search rules,
  subst (λ (j : Job). TellsKept j c.is_kept-kept.result) (sym c.in_ok-job.ensures) c.is_kept-kept.ensures.kept,
)
