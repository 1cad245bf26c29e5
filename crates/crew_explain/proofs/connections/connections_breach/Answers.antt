use Rattle.std.proofs.Common.{◌≡◌, ◌∙◌, ◌+◌, List, drop, subst, sym}
use Rattle.crew_pairing.specs.declared.leg.TimedLeg.{TimedLeg}
use Rattle.crew_explain.specs.Rules.{connection, connections, first_of}
use Rattle.crew_explain.proofs.Asking.{drop-next, hit-append}
use Rattle.crew_explain.proofs.connections.connections_breach.Goals as goal

pub returns-in-Some : goal.returns-in-Some
returns-in-Some c =
    let s = c.args.settings.now in
    let turns = c.args.timetable.now.turns in
    let duty = c.args.duty in
    let leg = c.loop-next.leg in
    let last = c.loop-next.last.now in
    let next = c.next-item.result in
    let i = c.loop-next.next-index in
    let others = c.args.others.now in
    let there = subst (λ (ls : List TimedLeg). first_of (connections s turns duty leg last ls) ≡ first_of (connections s turns duty 2 c.args.first.now others)) (drop-next others i next c.loop-next-test.true c.next-item.is) c.loop-next.invariant.rest in
    hit-append (connection s turns duty leg last.flight next.flight) (connections s turns duty (leg + 1) next (drop (i + 1) others)) c.in-Some.breach (sym c.in-Some.is ∙ c.connection_breach-broken.ensures) ∙ there
