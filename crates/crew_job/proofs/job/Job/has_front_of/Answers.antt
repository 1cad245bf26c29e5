use Rattle.std.proofs.Common.{◌∙◌, ap}
use Rattle.crew_job.proofs.AsBefore.{tells-same}
use Rattle.crew_job.proofs.BaseSweeps.{done-front}
use Rattle.crew_job.proofs.NodePlaces.{node-from}
use Rattle.crew_job.proofs.SealedNodes.{front-unsealed}
use Rattle.crew_job.specs.Grounds.{Ground}
use Rattle.crew_job.specs.Machinery.Held.{IsSwept}
use Rattle.crew_machine.specs.Crew.{DutyNode}
use Rattle.crew_job.proofs.job.Job.has_front_of.Goals as goal

pub returns : goal.returns
returns c =
    let job = c.args.self.now in
    let b = c.args.fronts.now in
    let g = job.ground in
    let is = c.ground.ensures.ground in
    let n : DutyNode = record { base = c.code.result; duty = c.duty.result.now } in
    let named = node-from g.plan.net job.base job.rank n.base n.duty c.code.ensures.code c.duty.ensures.duty in
    let sealed = ap (λ (x : Ground). x.sealed) c.ground.ensures.value in
    let before = front-unsealed g is c.sealed-sealed.result.now (c.sealed-sealed.ensures.version ∙ sealed) n c.sealed_front-before.result c.sealed_front-before.ensures in
    let swept : IsSwept job b = record { right = is; placed = c.ground.ensures.placed; swept = c.requires.sweep } in
    let now = done-front job b swept c.rank.result c.front.result c.rank.ensures.value c.front.ensures.front n named in
    tells-same job is n named c.is_same_front.result c.sealed_front-before.result c.front.result (c.requires.there n named) before now c.is_same_front.ensures
