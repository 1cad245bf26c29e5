use Rattle.std.proofs.Common.{◌∙◌, ◌++◌, ◌∷◌, [], List, ap, subst, sym, take}
use Rattle.crew_job.proofs.Lots.{one-more, stand-taken}
use Rattle.crew_job.specs.Grounds.{Ground}
use Rattle.crew_job.specs.Jobs.{Job}
use Rattle.crew_job.specs.Lots.{IsLot, StandOn}
use Rattle.crew_job.specs.Shown.{IsLeftOf}
use Rattle.crew_resource.proofs.Members.{Member-get_or}
use Rattle.crew_job.proofs.done_lot.work_lot.Goals as goal

pub sweep_beside-requires : goal.sweep_beside-requires
sweep_beside-requires c =
    let jobs = c.jobs-jobs.result.now in
    let job = c.job-item.result in
    let lot : IsLot jobs = subst IsLot (sym c.jobs-jobs.ensures.jobs) c.jobs-jobs.ensures.lot in
    let there = Member-get_or jobs c.loop-job.job-index job c.loop-job-test.true (sym c.job-item.is) in
    subst (StandOn job.ground) (sym (c.deref.ensures.value ∙ c.loop-job.invariant.0)) (stand-taken c.loop-job.job-index jobs job lot there)

pub done_by-requires-clause-left : goal.done_by-requires-clause-left
done_by-requires-clause-left c =
    let jobs = c.jobs-jobs.result.now in
    let job = c.job-item.result in
    c.loop-job.invariant.1 job (Member-get_or jobs c.loop-job.job-index job c.loop-job-test.true (sym c.job-item.is))

pub loop-job-preserved : goal.loop-job-preserved
loop-job-preserved c =
    let jobs = c.jobs-jobs.result.now in
    let job = c.job-item.result in
    let lot : IsLot jobs = subst IsLot (sym c.jobs-jobs.ensures.jobs) c.jobs-jobs.ensures.lot in
    let there = Member-get_or jobs c.loop-job.job-index job c.loop-job-test.true (sym c.job-item.is) in (
      c.in_ok-push.ensures.items ∙ (ap (λ (js : List Job). js ++ c.in_ok-done_by.field-0 ∷ []) c.loop-job.invariant.0 ∙ (ap (λ (j : Job). take c.loop-job.job-index jobs ++ j ∷ []) c.in_ok-done_by.ensures.done ∙ sym (one-more jobs c.loop-job.job-index job c.loop-job-test.true c.job-item.is))),
      λ other m. subst (λ (g : Ground). IsLeftOf g c.done_by.new.left) (lot job other there m) c.done_by.ensures.left,
    )
