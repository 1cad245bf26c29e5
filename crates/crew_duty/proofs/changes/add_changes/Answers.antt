use Rattle.std.proofs.Common.{◌⊎◌, inl, inr, get_or, subst, take}
use Rattle.std.proofs.lemmas.List.{take_more}
use Rattle.crew_flights.specs.declared.flight.Flight.{Flight}
use Rattle.crew_resource.specs.Members.{Member}
use Rattle.crew_pairing.proofs.Tree.{Each-map, Each-push}
use Rattle.crew_duty.proofs.changes.add_changes.Goals as goal

pub loop-flight-preserved : goal.loop-flight-preserved
loop-flight-preserved c =
    let flights = c.args.flights.now in
    let others = c.args.others.now in
    let minutes = c.add_unless_at.new.minutes.items in
    let i = c.loop-flight.flight-index in
    let d = c.flight-item.result in
    let told = c.in_ok-add_unless_at.ensures.told in
    let kept = c.in_ok-add_unless_at.ensures.kept in
    let before = Each-map (λ (f : Flight). Member others f ⊎ Member c.loop-flight.minutes.items f.dep) (λ (f : Flight). Member others f ⊎ Member minutes f.dep) (take i flights)
    (λ f h. elim h [ inl m ↦ inl m | inr m ↦ inr (kept f.dep m) ]) c.loop-flight.invariant.told in
    let here = subst (λ (f : Flight). Member others f ⊎ Member minutes f.dep) c.flight-item.is told in
    record {
      told = rw (take_more flights i d c.loop-flight-test.true) (Each-push (λ (f : Flight). Member others f ⊎ Member minutes f.dep) (take i flights) (get_or flights i d) before here);
      kept = λ m h. kept m (c.loop-flight.invariant.kept m h);
    }
