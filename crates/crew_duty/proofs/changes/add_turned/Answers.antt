use Rattle.std.proofs.Common.{◌≡◌, ◌⊎◌, inl, inr, get_or, subst, take, refl}
use Rattle.std.proofs.lemmas.List.{take_more}
use Rattle.crew_flights.specs.declared.flight.Flight.{Flight}
use Rattle.crew_resource.specs.Members.{Member}
use Rattle.crew_pairing.proofs.Tree.{Each-map, Each-push}
use Rattle.crew_duty.specs.Machinery.Turns.{turns_from}
use Rattle.crew_duty.proofs.Kept.{none-turned}
use Rattle.crew_duty.proofs.changes.add_turned.Goals as goal

pub returns-then-are-clause-told : goal.returns-then-are-clause-told
returns-then-are-clause-told c = none-turned c.args.flights.now c.args.turns.now c.args.earlier.now c.args.minutes.now.items (c.if-are.ensures refl)

pub loop-flight-preserved : goal.loop-flight-preserved
loop-flight-preserved c =
    let flights = c.args.flights.now in
    let turns = c.args.turns.now in
    let earlier = c.args.earlier.now in
    let minutes = c.add_unless_same.new.minutes.items in
    let i = c.loop-flight.flight-index in
    let d = c.flight-item.result in
    let told = c.in_ok-add_unless_same.ensures.told in
    let kept = c.in_ok-add_unless_same.ensures.kept in
    let before = Each-map (λ (f : Flight). (turns_from turns f.id ≡ turns_from earlier f.id) ⊎ Member c.loop-flight.minutes.items f.dep) (λ (f : Flight). (turns_from turns f.id ≡ turns_from earlier f.id) ⊎ Member minutes f.dep) (take i flights)
    (λ f h. elim h [ inl m ↦ inl m | inr m ↦ inr (kept f.dep m) ]) c.loop-flight.invariant.told in
    let here = subst (λ (f : Flight). (turns_from turns f.id ≡ turns_from earlier f.id) ⊎ Member minutes f.dep) c.flight-item.is told in
    record {
      told = rw (take_more flights i d c.loop-flight-test.true) (Each-push (λ (f : Flight). (turns_from turns f.id ≡ turns_from earlier f.id) ⊎ Member minutes f.dep) (take i flights) (get_or flights i d) before here);
      kept = λ m h. kept m (c.loop-flight.invariant.kept m h);
    }
