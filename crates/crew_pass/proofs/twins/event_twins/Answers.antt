use Rattle.std.proofs.Common.{arith, refl}
use Rattle.crew_net.proofs.Slices.{item-in}
use Rattle.crew_pass.specs.Machinery.Twins.{IsTwin}
use Rattle.crew_pass.proofs.Twinned.{none-so-far, one-so-far, twin-of}
use Rattle.crew_pass.proofs.twins.event_twins.Goals as goal

pub loop-event-init : goal.loop-event-init
loop-event-init g c = none-so-far (IsTwin c.args.events.now c.args.others.now) _ c.in_ok-twins.ensures.items

pub loop-event-preserved : goal.loop-event-preserved
loop-event-preserved g c =
    let here = c.args.events.now in
    let there = c.args.others.now in
    let i = c.loop-event.event-index in
    let event = c.event-item.result in
    let at = item-in here here i event c.loop-event-test.true refl c.event-item.is in
    one-so-far (IsTwin here there) i c.loop-event.twins.items c.push.new.self.items c.event_twin.result c.in_ok-push.ensures.items
    (twin-of here there i c.event_twin.result event at c.event_twin.ensures)
    c.loop-event.invariant

pub returns-clause-long : goal.returns-clause-long
returns-clause-long g c =
    let long = c.loop-event.invariant.long in
    omega (arith, c.loop-event-test.false, long)

pub returns-clause-twins : goal.returns-clause-twins
returns-clause-twins g c = c.loop-event.invariant.each
