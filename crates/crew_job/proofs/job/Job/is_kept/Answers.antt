use Rattle.std.proofs.Common.{◌∙◌, ap, subst}
use Rattle.crew_job.proofs.AsBefore.{tells-alike}
use Rattle.crew_job.proofs.BaseSweeps.{node-legal}
use Rattle.crew_job.proofs.NodePlaces.{node-from}
use Rattle.crew_job.proofs.SealedNodes.{node-unsealed}
use Rattle.crew_job.specs.Grounds.{Ground}
use Rattle.crew_job.specs.Shown.{LeavesAsSealed}
use Rattle.crew_machine.specs.Crew.{DutyNode}
use Rattle.crew_pairing.specs.Events.{departure_of}
use Rattle.crew_job.proofs.job.Job.is_kept.Goals as goal

pub returns-then-look_at-clause-kept : goal.returns-then-look_at-clause-kept
returns-then-look_at-clause-kept c =
    let job = c.args.self.now in
    let g = job.ground in
    let is = c.ground-ground.ensures.ground in
    let n : DutyNode = record { base = c.code-base.result; duty = c.duty-duty.result.now } in
    let named = node-from g.plan.net job.base job.rank n.base n.duty c.code-base.ensures.code c.duty-duty.ensures.duty in
    let sealed = ap (λ (x : Ground). x.sealed) c.ground-ground.ensures.value in
    let there = node-unsealed g is c.sealed.result.now (c.sealed.ensures.version ∙ sealed) n (c.has_node.ensures.0 c.if-not-has_node.false) in
    let alike = subst (λ (x : Ground). LeavesAsSealed x n.base (departure_of n.duty)) c.ground-ground.ensures.value (c.look_at.ensures.alike c.if-look_at.true) in
    tells-alike job is n named (node-legal g is job.base job.rank n named) there alike
