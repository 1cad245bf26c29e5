use Rattle.std.proofs.Common.{◌≤ℤ◌, ◌<ℤ◌, subst, arith, filter}
use Rattle.std.proofs.lemmas.Int.{ints}
use Rattle.crew_duty.specs.Machinery.Held.{over}
use Rattle.crew_flights.specs.declared.flight.Flight.{Flight}
use Rattle.crew_pairing.specs.Legality.{may_follow}
use Rattle.crew_pairing.proofs.Tree.{Each-map}
use Rattle.crew_duty.specs.Machinery.Plans.{Knows}
use Rattle.crew_duty.proofs.plan.next_of.Goals as goal

pub soonest_of-soonest-requires : goal.soonest_of-soonest-requires
soonest_of-soonest-requires c =
    let s = c.args.settings.now in
    let flights = over c.args.flights.now c.args.turns.now in
    let before = c.args.before.now in
    let stand = subst (Knows s flights before) c.in-Some.is c.in_ok-places.ensures in
    rw c.deref.ensures.value (filter (may_follow s flights.turns before) flights.list, stand)

pub returns : goal.returns
returns c =
    let s = c.args.settings.now in
    let flights = over c.args.flights.now c.args.turns.now in
    let before = c.args.before.now in
    let gs = filter (may_follow s flights.turns before) flights.list in
    let stand = subst (Knows s flights before) c.in-Some.is c.in_ok-places.ensures in
    let each = c.soonest_of-soonest.ensures.before gs (rw c.deref.ensures.value stand) in
    record {
      knows = stand;
      least = omega (arith, ints, c.soonest_of-soonest.ensures.least, c.soonest_of-soonest.ensures.most);
      most = omega (arith, ints, c.soonest_of-soonest.ensures.least, c.soonest_of-soonest.ensures.most);
      soonest = λ latest least soon. Each-map (λ (g : Flight). c.soonest_of-soonest.result ≤ℤ g.arr) (λ (g : Flight). latest <ℤ g.arr) gs (λ g h. omega (arith, ints, h, soon, c.soonest_of-soonest.ensures.least, c.soonest_of-soonest.ensures.most)) each;
    }
