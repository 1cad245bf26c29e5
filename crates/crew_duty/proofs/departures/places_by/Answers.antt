use Rattle.std.proofs.Common.{◌≡◌, ◌∙◌, ◌+ℤ◌, ℤ, pos, filter, arith, of_z, subst, to_z, w64}
use Rattle.std.proofs.lemmas.Int.{ints}
use Rattle.rayon.proofs.ListFacts.{IfOk-then}
use Rattle.crew_duty.specs.Machinery.Plans.{StandAt}
use Rattle.crew_duty.specs.Machinery.Slots.{earlier, follows_by, is_between, moment}
use Rattle.crew_duty.proofs.departures.places_by.Goals as goal

pub slots_after-after-requires-clause-index : goal.slots_after-after-requires-clause-index
slots_after-after-requires-clause-index c = c.requires.index.ascending

pub places_among-requires-clause-after : goal.places_among-requires-clause-after
places_among-requires-clause-after c =
    let s = c.args.settings.now in
    let before = c.args.before.now in
    c.slots_after-after.ensures.slots
    ∙ (λ i. filter (is_between (moment before.to (before.arr +ℤ pos (c.least_gap.ensures.value i))) (moment before.to (earlier (before.arr +ℤ pos s.sit) (to_z w64 (of_z w64 c.args.latest))))) c.args.slots.now)

pub returns : goal.returns
returns c =
    let s = c.args.settings.now in
    let flights = c.args.flights.now in
    let turns = c.args.turns.now in
    let before = c.args.before.now in
    let same : to_z w64 (of_z w64 c.args.latest) ≡ c.args.latest = omega (arith, ints, c.requires.least, c.requires.most) in
    IfOk-then c.places_among.result _ _ c.places_among.ensures
    (λ places on. subst (λ (t : ℤ). StandAt flights places.items (filter (follows_by s turns t before) flights)) same (on turns c.after-own.ensures))
