use Rattle.std.proofs.Common.{List, subst, sym}
use Rattle.std.proofs.lemmas.List.{take_all}
use Rattle.crew_duty.specs.Machinery.Held.{over}
use Rattle.crew_flights.specs.declared.flight.Flight.{Flight}
use Rattle.crew_resource.specs.Members.{Member}
use Rattle.crew_duty.specs.Machinery.Kept.{AreKept, MayBeKept}
use Rattle.crew_duty.proofs.Blocks.{AreKept-more, may-be-kept}
use Rattle.crew_duty.proofs.Kept.{Member-at}
use Rattle.crew_duty.proofs.past.Past.blocks.Goals as goal

pub loop-flight-preserved : goal.loop-flight-preserved
loop-flight-preserved c = λ turns past.
    let s = c.args.settings.now in
    let list = c.args.flights.now in
    let flights = over list turns in
    let duties = c.args.self.now.duties.now in
    let minutes = c.args.self.now.minutes.now in
    let i = c.loop-flight.flight-index in
    let d = c.flight-item.result in
    let known = subst (Member list) (sym c.flight-item.is) (Member-at list i d c.loop-flight-test.true) in
    let own = may-be-kept s flights duties minutes d c.kept-block.result past known c.kept-block.ensures in
    let here = subst (λ (f : Flight). MayBeKept s flights duties f c.kept-block.result) c.flight-item.is own in
    rw c.in_ok-push.ensures.items (AreKept-more s flights duties c.loop-flight.blocks.items c.kept-block.result i d c.loop-flight-test.true (c.loop-flight.invariant turns past) here)

pub kept-block-requires-clause-past : goal.kept-block-requires-clause-past
kept-block-requires-clause-past c = (over c.args.flights.now c.requires.past.0, c.requires.past.1)

pub loop-flight-init : goal.loop-flight-init
loop-flight-init c = λ turns past. rw c.in_ok-blocks.ensures.items tt

pub returns : goal.returns
returns c = λ turns past.
    let flights = over c.args.flights.now turns in
    let all = take_all c.loop-flight.flight-index c.args.flights.now c.loop-flight-test.false in
    subst (λ (fs : List Flight). AreKept c.args.settings.now flights c.args.self.now.duties.now fs c.loop-flight.blocks.items) all (c.loop-flight.invariant turns past)
