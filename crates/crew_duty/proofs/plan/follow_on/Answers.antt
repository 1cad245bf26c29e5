use Rattle.std.proofs.Common.{◌≡◌, ◌<◌, ◌∷◌, arith, filter, length, get_or, subst, ℤ, to_z, of_z, w64}
use Rattle.std.proofs.lemmas.Option.{get_or_from_slice_get, slice_get-get_or}
use Rattle.std.proofs.lemmas.Int.{ints}
use Rattle.crew_flights.specs.declared.flight.Flight.{Flight}
use Rattle.crew_pairing.specs.Legality.{last_of}
use Rattle.crew_duty.specs.Machinery.Held.{held}
use Rattle.crew_duty.specs.Machinery.Plans.{Knows, StandAt}
use Rattle.crew_duty.specs.Machinery.Slots.{follows_by}
use Rattle.crew_duty.proofs.Leads.{leads-all, leads-early}
use Rattle.crew_duty.proofs.Places.{AreNext-at, AreNext-length}
use Rattle.crew_duty.proofs.plan.follow_on.Goals as goal

pub bounds-plan-last : goal.bounds-plan-last
bounds-plan-last c =
    let flights = held c.args.plan.now in
    omega (arith, c.requires.last, AreNext-length c.args.plan.now.settings.now flights flights.list c.args.plan.now.next.now c.requires.plan.are_next)

pub returns-in-Some : goal.returns-in-Some
returns-in-Some c = λ first others limits here are.
    let flights = held c.args.plan.now in
    let s = c.args.plan.now.settings.now in
    let next = c.args.plan.now.next.now in
    let in_next : c.args.last < length next = omega (arith, c.requires.last, AreNext-length s flights flights.list next c.requires.plan.are_next) in
    let d = c.index-plan-last.result in
    let known = AreNext-at s flights flights.list next c.args.last (last_of first others).flight (get_or next c.args.last d) c.requires.plan.are_next here (slice_get-get_or next c.args.last d in_next) in
    let places = subst (Knows s flights (last_of first others).flight) (c.in-Some.is) known.knows in
    rw c.deref.ensures.value (leads-all s flights first others c.in-Some.places.items places)

pub returns : goal.returns
returns c = λ first others limits here are.
    let flights = held c.args.plan.now in
    let s = c.args.plan.now.settings.now in
    let d = c.index-plan-last-2.result in
    let same = get_or_from_slice_get flights.list c.args.last (last_of first others).flight d here in
    let value : to_z w64 (of_z w64 c.latest-latest.result) ≡ c.latest-latest.result = omega (arith, ints, c.latest-latest.ensures.least, c.latest-latest.ensures.most) in
    let found = c.in_ok-found.ensures in
    let stands = subst (λ (f : Flight). StandAt flights.list c.in_ok-found.found.items (filter (follows_by s flights.turns c.latest-latest.result f) flights.list)) same
    (subst (λ (t : ℤ). StandAt flights.list c.in_ok-found.found.items (filter (follows_by s flights.turns t (get_or flights.list c.args.last d)) flights.list)) value found) in
    leads-early s flights first others c.in_ok-found.found.items c.latest-latest.result c.requires.plan.are_flights (c.latest-latest.ensures.value s first (first ∷ others) limits are) stands
