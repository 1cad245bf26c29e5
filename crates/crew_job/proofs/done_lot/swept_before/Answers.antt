use Rattle.std.proofs.Common.{◌∙◌, ◌-◌, ◌<◌, ap, arith, length, subst, sym}
use Rattle.std.specs.Arc.{arc_value}
use Rattle.crew_job.specs.Grounds.{Ground}
use Rattle.crew_job.specs.Jobs.{Job}
use Rattle.crew_resource.proofs.Members.{Member-get_or}
use Rattle.crew_version.specs.crew_plan.Plans.{AreFrontsIn}
use Rattle.crew_job.proofs.done_lot.swept_before.Goals as goal

pub returns-then-base : goal.returns-then-base
returns-then-base c =
    let job = c.args.job.now in
    let other = c.index-results-k.result in
    let k = c.loop-k.k in
    let some = c.loop-k-test.true in
    let most = c.loop-k.auto.k in
    let low : k - 1 < length c.args.results.now = omega (arith, some, most) in
    let ground = c.requires other (Member-get_or c.args.results.now (k - 1) other low (sym c.index-results-k.is)) in
    let base = sym (c.base.ensures.value ∙ ap (λ (j : Job). j.base) c.job.ensures) ∙ (c.if-base.true ∙ c.base-base.ensures.value) in
    let sweep = arc_value c.sweep.result.now in
    subst (λ (g : Ground). AreFrontsIn g.plan job.base sweep) ground (subst (λ b. AreFrontsIn other.ground.plan b sweep) base c.sweep.ensures.swept)
