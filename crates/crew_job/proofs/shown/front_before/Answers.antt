use Rattle.std.proofs.Common.{◌∙◌, ap, subst, sym}
use Rattle.crew_job.proofs.BaseSweeps.{shows-before}
use Rattle.crew_job.proofs.NodePlaces.{some-node-at}
use Rattle.crew_job.proofs.SealedNodes.{front-unsealed, node-sealed}
use Rattle.crew_job.specs.Grounds.{Ground, data_of}
use Rattle.crew_job.specs.Jobs.{Job}
use Rattle.crew_machine.specs.Crew.{DutyNode, IsFrontOf}
use Rattle.crew_job.proofs.shown.front_before.Goals as goal

pub swept_front-requires : goal.swept_front-requires
swept_front-requires c =
    let job : Job = c.args.job.now in
    let p : DutyNode = record { base = c.args.base; duty = c.args.duty.now } in
    (shows-before job.ground c.ground-ground.ensures.ground job.base job.rank p c.in-Some.sweep.now c.ground-ground.ensures.placed.base c.ground-ground.ensures.placed.rank c.requires c.in-Some.ensures).there

pub returns-in-Some : goal.returns-in-Some
returns-in-Some c =
    let job : Job = c.args.job.now in
    let p : DutyNode = record { base = c.args.base; duty = c.args.duty.now } in
    let shows = shows-before job.ground c.ground-ground.ensures.ground job.base job.rank p c.in-Some.sweep.now c.ground-ground.ensures.placed.base c.ground-ground.ensures.placed.rank c.requires c.in-Some.ensures in
    subst (IsFrontOf job.ground.settings (data_of job.ground) p) (sym c.swept_front.ensures) shows.front

pub sealed_front-requires : goal.sealed_front-requires
sealed_front-requires c =
    let job : Job = c.args.job.now in
    let p : DutyNode = record { base = c.args.base; duty = c.args.duty.now } in
    let n = some-node-at job.ground.plan.net job.base job.rank c.ground-ground.ensures.placed.base c.ground-ground.ensures.placed.rank in
    let as_sealed = c.in-None.ensures n.0 p n.1 (c.requires n.0 n.1) in
    node-sealed job.ground c.ground-ground.ensures.ground c.sealed.result.now (c.sealed.ensures.version ∙ ap (λ (g : Ground). g.sealed) c.ground-ground.ensures.value) p as_sealed.there

pub returns-in-None : goal.returns-in-None
returns-in-None c =
    let job : Job = c.args.job.now in
    let p : DutyNode = record { base = c.args.base; duty = c.args.duty.now } in
    let n = some-node-at job.ground.plan.net job.base job.rank c.ground-ground.ensures.placed.base c.ground-ground.ensures.placed.rank in
    let as_sealed = c.in-None.ensures n.0 p n.1 (c.requires n.0 n.1) in
    as_sealed.front c.sealed_front.result (front-unsealed job.ground c.ground-ground.ensures.ground c.sealed.result.now (c.sealed.ensures.version ∙ ap (λ (g : Ground). g.sealed) c.ground-ground.ensures.value) p c.sealed_front.result c.sealed_front.ensures)
