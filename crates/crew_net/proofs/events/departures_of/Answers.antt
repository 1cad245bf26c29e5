use Rattle.std.proofs.Common.{rules, ◌≡◌, ◌<◌, ◌+◌, ◌∙◌, ◌++◌, ◌∷◌, [], ap, sym, subst, map, length, arith}
use Rattle.std.proofs.lemmas.List.{length-map}
use Rattle.crew_net.specs.Machinery.Held.{leave_at}
use Rattle.crew_pairing.specs.Events.{departure_of}
use Rattle.crew_pairing.specs.declared.events.Departure.{Departure}
use Rattle.crew_net.proofs.AtMoments.{AtSoFar, at-all, at-more, none-so-far}
use Rattle.crew_net.proofs.events.departures_of.Goals as goal

pub loop-event-init : goal.loop-event-init
loop-event-init c = subst (AtSoFar departure_of leave_at c.args.duties.now c.args.leaving.now.moments.items 0) (sym c.in_ok-events.ensures.items) (none-so-far departure_of leave_at c.args.duties.now c.args.leaving.now.moments.items)

pub first_of-requires-clause-timeline : goal.first_of-requires-clause-timeline
first_of-requires-clause-timeline c = (map leave_at c.args.duties.now, length-map c.args.duties.now leave_at, c.requires)

pub loop-event-preserved : goal.loop-event-preserved
loop-event-preserved c =
    let duties = c.args.duties.now in
    let ms = c.args.leaving.now.moments.items in
    let n = c.loop-event.event in
    let within : n < length ms = search rules in
    let d = c.first_of.result.now in
    let its = c.first_of.ensures (map leave_at duties) c.requires in
    subst (AtSoFar departure_of leave_at duties ms (n + 1)) (sym (c.in_ok-push.ensures.items ∙ ap (λ (g : Departure). c.loop-event.events.items ++ g ∷ []) c.departure.ensures))
    (at-more departure_of leave_at duties ms n c.loop-event.events.items d within its c.loop-event.invariant)

pub returns : goal.returns
returns c =
    let ms = c.args.leaving.now.moments.items in
    let long : c.len-event-end.result ≡ length ms = search rules in
    let end : c.loop-event.event ≡ length ms = omega (arith, long, c.loop-event-test.false, c.loop-event.auto.event-end) in
    at-all departure_of leave_at c.args.duties.now ms c.loop-event.event c.loop-event.events.items end c.loop-event.invariant
