use Rattle.std.proofs.Common.{◌≡◌, ◌∙◌, ◌+ℤ◌, List, filter, pos, subst}
use Rattle.crew_flights.specs.declared.flight.Flight.{Flight}
use Rattle.crew_duty.specs.Machinery.Plans.{StandAt}
use Rattle.crew_duty.specs.Machinery.Slots.{earlier, is_between, moment}
use Rattle.crew_duty.proofs.Slots.{each-ever}
use Rattle.crew_duty.proofs.departures.few_after.Goals as goal

pub slots_after-after-requires-clause-index : goal.slots_after-after-requires-clause-index
slots_after-after-requires-clause-index c = c.requires.index.ascending

pub places_among-requires-clause-after : goal.places_among-requires-clause-after
places_among-requires-clause-after c =
    let s = c.args.settings.now in
    let before = c.args.before.now in
    c.slots_after-after.ensures.slots
    ∙ (λ i. filter (is_between (moment before.to (before.arr +ℤ pos (c.least_gap.ensures.value i))) (moment before.to (earlier (before.arr +ℤ pos s.sit) (pos 100_000_000)))) c.args.slots.now)

pub returns : goal.returns
returns c =
    let s = c.args.settings.now in
    let flights = c.args.flights.now in
    let turns = c.args.turns.now in
    let before = c.args.before.now in
    let stands = c.in_ok-places.ensures turns c.after-own.ensures in
    subst (λ (fs : List Flight). StandAt flights c.in_ok-places.places.items fs) (each-ever s turns before flights c.requires.index.named) stands
