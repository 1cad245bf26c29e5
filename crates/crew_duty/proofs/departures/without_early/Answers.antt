use Rattle.std.proofs.Common.{◌≡◌, ◌+◌, ◌++◌, ◌∷◌, [], ◌∙◌, List, ap, arith, filter, get_or, if◌then◌else◌, subst, take, ℕ, Bool}
use Rattle.std.proofs.lemmas.List.{take_all, take_more}
use Rattle.std.proofs.lemmas.Option.{get_or_from_slice_get, slice_get-get_or}
use Rattle.crew_flights.specs.declared.flight.Flight.{Flight}
use Rattle.crew_pairing.proofs.Tree.{slice_get-within}
use Rattle.crew_duty.specs.Machinery.Plans.{StandAt}
use Rattle.crew_duty.specs.Machinery.Turns.{is_late_enough}
use Rattle.crew_duty.proofs.Gaps.{filter-more, stand-more}
use Rattle.crew_duty.proofs.Places.{StandAt-at, StandAt-length}
use Rattle.crew_duty.proofs.departures.without_early.Goals as goal

pub bounds-flights-place : goal.bounds-flights-place
bounds-flights-place c =
    let places = c.args.places.now in
    let i = c.loop-place.place-index in
    let at = StandAt-at c.args.flights.now places c.requires.0 i (get_or places i 0) c.requires.1 (slice_get-get_or places i 0 c.loop-place-test.true) in
    slice_get-within c.args.flights.now (get_or places i 0) at.0 at.2

pub loop-place-preserved : goal.loop-place-preserved
loop-place-preserved c = λ gs stand.
    let flights = c.args.flights.now in
    let places = c.args.places.now in
    let p = is_late_enough c.args.settings.now c.args.own.now c.args.before.now in
    let i = c.loop-place.place-index in
    let place = get_or places i 0 in
    let at = StandAt-at flights places gs i place stand (slice_get-get_or places i 0 c.loop-place-test.true) in
    let g = at.0 in
    let inside = slice_get-within gs i g at.1 in
    let item = get_or_from_slice_get gs i g g at.1 in
    let grown : take (i + 1) gs ≡ take i gs ++ g ∷ [] = take_more gs i g inside ∙ ap (λ (x : Flight). take i gs ++ x ∷ []) item in
    let flight = get_or_from_slice_get flights place g c.index-flights-place.result at.2 in
    let late : c.is_late_enough-late.result ≡ p g = c.is_late_enough-late.ensures ∙ ap p (c.index-flights-place.is ∙ flight) in
    let kept : c.add_where.new.kept.items ≡ c.loop-place.kept.items ++ (if p g then place ∷ [] else []) =
    c.in_ok-add_where.ensures ∙ ap (λ (b : Bool). c.loop-place.kept.items ++ (if b then place ∷ [] else [])) late in
    let more = stand-more flights c.loop-place.kept.items (filter p (take i gs)) place g (p g) (c.loop-place.invariant gs stand) at.2 in
    rw (grown, filter-more p (take i gs) g, kept) more

pub returns : goal.returns
returns c = λ gs stand.
    let i = c.loop-place.place-index in
    let all : take i gs ≡ gs = take_all i gs (omega (arith, c.loop-place-test.false, StandAt-length c.args.flights.now c.args.places.now gs stand)) in
    rw all at (c.loop-place.invariant gs stand)
