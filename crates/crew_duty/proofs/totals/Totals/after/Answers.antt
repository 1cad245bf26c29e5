use Rattle.std.proofs.Common.{not, ◌≡◌, ◌-ℤ◌, pos, refl, ap, arith}
use Rattle.std.proofs.lemmas.Int.{ints}
use Rattle.crew_pairing.specs.Legality.{minutes_flown, price_of}
use Rattle.crew_pairing.specs.Machinery.Listing.{timed}
use Rattle.crew_pairing.specs.declared.leg.TimedLeg.{TimedLeg}
use Rattle.crew_duty.proofs.Running.{counted, not-counted}
use Rattle.crew_pairing.proofs.Sums.{total-push}
use Rattle.crew_duty.proofs.totals.Totals.after.Goals as goal

pub returns-then-deadhead : goal.returns-then-deadhead
returns-then-deadhead c legs are =
    let leg = timed c.args.deadhead c.args.flight.now in
    let ridden = c.if-deadhead.true in
    let flown : minutes_flown leg ≡ pos 0 = rw ridden refl in
    let priced : price_of leg ≡ pos 0 = rw ridden refl in
    record {
      deadheads = omega (arith, are.deadheads, counted (λ (l : TimedLeg). l.deadhead) legs leg ridden);
      segments = omega (arith, are.segments, not-counted (λ (l : TimedLeg). not l.deadhead) legs leg (ap not ridden));
      fly = omega (arith, ints, are.fly, flown, total-push minutes_flown legs leg);
      price = omega (arith, ints, are.price, priced, total-push price_of legs leg);
    }

pub returns : goal.returns
returns c legs are =
    let flight = c.args.flight.now in
    let leg = timed c.args.deadhead flight in
    let whole = c.if-deadhead.false in
    let flown : minutes_flown leg ≡ flight.arr -ℤ flight.dep = rw whole refl in
    let priced : price_of leg ≡ flight.price = rw whole refl in
    record {
      deadheads = omega (arith, are.deadheads, not-counted (λ (l : TimedLeg). l.deadhead) legs leg whole);
      segments = omega (arith, are.segments, counted (λ (l : TimedLeg). not l.deadhead) legs leg (ap not whole));
      fly = omega (arith, ints, are.fly, flown, total-push minutes_flown legs leg, c.get.ensures, c.get-2.ensures);
      price = omega (arith, ints, are.price, priced, total-push price_of legs leg);
    }
