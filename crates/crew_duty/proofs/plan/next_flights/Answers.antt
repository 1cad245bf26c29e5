use Rattle.std.proofs.Common.{List, subst}
use Rattle.std.proofs.lemmas.List.{take_all}
use Rattle.crew_duty.specs.Machinery.Held.{over}
use Rattle.crew_flights.specs.declared.flight.Flight.{Flight}
use Rattle.crew_duty.specs.Machinery.Plans.{AreNext, IsNext}
use Rattle.crew_duty.proofs.Places.{AreNext-more}
use Rattle.crew_duty.proofs.plan.next_flights.Goals as goal

pub loop-flight-preserved : goal.loop-flight-preserved
loop-flight-preserved c =
    let s = c.args.settings.now in
    let flights = over c.args.flights.now c.args.turns.now in
    let next = c.in_ok-next_of.field-0 in
    let i = c.loop-flight.flight-index in
    let d = c.flight-item.result in
    let here = subst (λ (f : Flight). IsNext s flights f next) c.flight-item.is c.in_ok-next_of.ensures in
    rw c.in_ok-push.ensures.items (AreNext-more s flights c.loop-flight.next.items next i d c.loop-flight-test.true c.loop-flight.invariant here)

pub returns : goal.returns
returns c =
    let s = c.args.settings.now in
    let flights = over c.args.flights.now c.args.turns.now in
    let all = take_all c.loop-flight.flight-index flights.list c.loop-flight-test.false in
    subst (λ (fs : List Flight). AreNext s flights fs c.loop-flight.next.items) all c.loop-flight.invariant
