use Rattle.std.proofs.Common.{◌≡◌, ◌∙◌, Some, ap, sym, true≢false}
use Rattle.std.specs.Prelude.{slice_get}
use Rattle.crew_job.proofs.NodePlaces.{node-from, node-parts, node-place}
use Rattle.crew_job.proofs.OwnPlaces.{own-in, own-out, own-stands, shown-before}
use Rattle.crew_job.specs.Grounds.{node_at, nodes_in}
use Rattle.crew_machine.specs.Crew.{DutyNode}
use Rattle.crew_resource.proofs.Members.{Member-at}
use Rattle.crew_job.proofs.own.is_own_at.Goals as goal

pub returns-then-not-is_same_node : goal.returns-then-not-is_same_node
returns-then-not-is_same_node c =
    let job = c.args.job.now in
    let net = c.args.ground.now.plan.net in
    let here = ap (slice_get (nodes_in net)) c.requires.place ∙ node-place net c.args.base c.args.rank c.requires.rank in (
      λ t. absurd (true≢false (sym t)),
      λ all.
          let stands = own-stands job c.ground-own.ensures.ground c.ground-own.ensures.placed c.args.ground.now c.args.place all in
          absurd (true≢false (sym (c.is_same_node.ensures.1 (sym stands ∙ here)) ∙ c.if-not-is_same_node.true)),
    )

pub is_same_work-requires-clause-there : goal.is_same_work-requires-clause-there
is_same_work-requires-clause-there c =
    let job = c.args.job.now in
    let net = c.args.ground.now.plan.net in
    let n : DutyNode = record { base = c.code.result; duty = c.duty.result.now } in
    let node = node-from job.ground.plan.net job.base job.rank c.code.result c.duty.result.now c.code.ensures.code c.duty.ensures.duty in
    let parts = node-parts net c.args.base c.args.rank n (sym (c.is_same_node.ensures.0 c.if-not-is_same_node.false) ∙ node) in
    Member-at net.duties c.args.rank c.duty.result.now parts.1

pub is_same_work-requires-clause-shown : goal.is_same_work-requires-clause-shown
is_same_work-requires-clause-shown c =
    let job = c.args.job.now in
    let g = c.args.ground.now in
    let net = g.plan.net in
    let n : DutyNode = record { base = c.code.result; duty = c.duty.result.now } in
    let node = node-from job.ground.plan.net job.base job.rank c.code.result c.duty.result.now c.code.ensures.code c.duty.ensures.duty in
    let here : node_at net c.args.base c.args.rank ≡ Some n = sym (c.is_same_node.ensures.0 c.if-not-is_same_node.false) ∙ node in
    let parts = node-parts net c.args.base c.args.rank n here in
    let stands = ap (slice_get (nodes_in net)) c.requires.place ∙ (node-place net c.args.base c.args.rank c.requires.rank ∙ here) in
    shown-before g c.args.place c.args.base c.code.result c.duty.result.now _ stands parts.0 c.requires.shown

pub returns : goal.returns
returns c =
    let job = c.args.job.now in
    let g = c.args.ground.now in
    let net = g.plan.net in
    let is = c.ground-own.ensures.ground in
    let placed = c.ground-own.ensures.placed in
    let here = ap (slice_get (nodes_in net)) c.requires.place ∙ node-place net c.args.base c.args.rank c.requires.rank in
    let stands = here ∙ sym (c.is_same_node.ensures.0 c.if-not-is_same_node.false) in (
      λ t. own-in job is placed g c.args.place stands (c.is_same_work.ensures.0 t),
      λ all. c.is_same_work.ensures.1 (own-out job is placed g c.args.place all),
    )
