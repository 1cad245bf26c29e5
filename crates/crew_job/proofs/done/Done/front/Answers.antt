use Rattle.std.proofs.Common.{◌≡◌, Some, subst}
use Rattle.std.specs.Prelude.{slice_get}
use Rattle.crew_job.proofs.BaseSweeps.{done-front, done-local}
use Rattle.crew_job.specs.Grounds.{data_of}
use Rattle.crew_job.specs.Jobs.{IsJobOf, Job, job_node}
use Rattle.crew_machine.specs.Crew.{DutyNode, DutyWork, IsFrontOf, IsLocalOf}
use Rattle.crew_pairing.specs.declared.duty.Duty.{Duty}
use Rattle.crew_version.specs.crew_fronts.Fronts.{BaseFronts, front_at}
use Rattle.crew_job.proofs.done.Done.front.Goals as goal

pub returns-clause-local : goal.returns-clause-local
returns-clause-local c =
    let job = c.self.inside.job in
    let b = c.self.inside.sweep.value in
    let shown = subst (λ (z : BaseFronts). (d : Duty) → slice_get z.net.duties c.rank.result ≡ Some d → c.front.result ≡ front_at z d) c.deref.ensures c.front.ensures.front in
    subst (λ (j : Job). (work : DutyWork) → IsJobOf j work → IsLocalOf work c.front.result) c.self.view_is (done-local job b c.self.invariant.0 c.rank.result c.front.result c.rank.ensures.value shown)

pub returns-clause-front : goal.returns-clause-front
returns-clause-front c =
    let job = c.self.inside.job in
    let b = c.self.inside.sweep.value in
    let shown = subst (λ (z : BaseFronts). (d : Duty) → slice_get z.net.duties c.rank.result ≡ Some d → c.front.result ≡ front_at z d) c.deref.ensures c.front.ensures.front in
    subst (λ (j : Job). (n : DutyNode) → job_node j ≡ Some n → IsFrontOf j.ground.settings (data_of j.ground) n c.front.result) c.self.view_is (done-front job b c.self.invariant.0 c.rank.result c.front.result c.rank.ensures.value shown)
