use Rattle.std.proofs.Common.{◌≡◌, ◌+◌, ◌≤ℤ◌, ◌++◌, ◌∷◌, [], ◌∙◌, ap, arith, get_or, of_z, pos, take, to_z, w64}
use Rattle.std.proofs.lemmas.Int.{ints}
use Rattle.std.proofs.lemmas.List.{take_all, take_more}
use Rattle.std.proofs.lemmas.Option.{get_or_from_slice_get, slice_get-get_or}
use Rattle.crew_flights.specs.declared.flight.Flight.{Flight}
use Rattle.crew_pairing.proofs.Tree.{Each-map, Each-push, slice_get-within}
use Rattle.crew_duty.proofs.Places.{StandAt-at, StandAt-length}
use Rattle.crew_duty.proofs.plan.soonest_of.Goals as goal

pub bounds-flights-place : goal.bounds-flights-place
bounds-flights-place c =
    let places = c.args.places.now in
    let i = c.loop-place.place-index in
    let at = StandAt-at c.args.flights.now places c.requires.0 i (get_or places i 0) c.requires.1 (slice_get-get_or places i 0 c.loop-place-test.true) in
    slice_get-within c.args.flights.now (get_or places i 0) at.0 at.2

pub bounds-flights-place-in-loop-place : goal.bounds-flights-place-in-loop-place
bounds-flights-place-in-loop-place c =
    let places = c.args.places.now in
    let i = c.loop-place.place-index in
    let at = StandAt-at c.args.flights.now places c.requires.0 i (get_or places i 0) c.requires.1 (slice_get-get_or places i 0 c.loop-place-test.true) in
    slice_get-within c.args.flights.now (get_or places i 0) at.0 at.2

pub loop-place-preserved : goal.loop-place-preserved
loop-place-preserved c =
    let is = c.earlier_of-soonest.ensures in
    let kept = c.loop-place.invariant in
    let bounds : (pos 0 ≤ℤ c.earlier_of-soonest.result) × (c.earlier_of-soonest.result ≤ℤ pos 100_000_000) = (is.least (pos 0) kept.least (omega (arith, ints, c.get.ensures.range)), omega (arith, ints, is.most, kept.most)) in record {
      before = λ gs stand.
          let flights = c.args.flights.now in
          let places = c.args.places.now in
          let i = c.loop-place.place-index in
          let at = StandAt-at flights places gs i (get_or places i 0) stand (slice_get-get_or places i 0 c.loop-place-test.true) in
          let g = at.0 in
          let inside = slice_get-within gs i g at.1 in
          let item = get_or_from_slice_get gs i g g at.1 in
          let grown : take (i + 1) gs ≡ take i gs ++ g ∷ [] = take_more gs i g inside ∙ ap (λ (x : Flight). take i gs ++ x ∷ []) item in
          let flight = get_or_from_slice_get flights (get_or places i 0) g c.index-flights-place.result at.2 in
          let arrival : c.get.result ≡ g.arr = c.get.ensures.value ∙ ap (λ (f : Flight). f.arr) flight in
          let earlier = Each-map _ (λ (f : Flight). to_z w64 (of_z w64 c.earlier_of-soonest.result) ≤ℤ f.arr) (take i gs) (λ f h. omega (arith, ints, h, is.most, bounds)) (kept.before gs stand) in
          rw grown (Each-push (λ (f : Flight). to_z w64 (of_z w64 c.earlier_of-soonest.result) ≤ℤ f.arr) (take i gs) g earlier (omega (arith, ints, arrival, is.most, bounds, c.get.ensures.range)));
      least = omega (arith, ints, bounds);
      most = omega (arith, ints, bounds);
    }

pub returns-clause-before : goal.returns-clause-before
returns-clause-before c = λ gs stand.
    let i = c.loop-place.place-index in
    let all : take i gs ≡ gs = take_all i gs (omega (arith, c.loop-place-test.false, StandAt-length c.args.flights.now c.args.places.now gs stand)) in
    rw all at (c.loop-place.invariant.before gs stand)
