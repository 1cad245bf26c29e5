use Rattle.std.proofs.Common.{◌≡◌, ◌∙◌, List, filter, subst, sym}
use Rattle.rayon.proofs.ListFacts.{IfOk-then}
use Rattle.crew_flights.specs.declared.flight.Flight.{Flight}
use Rattle.crew_duty.specs.Machinery.Plans.{StandAt}
use Rattle.crew_duty.specs.Machinery.Slots.{is_after_by}
use Rattle.crew_duty.specs.Machinery.Turns.{least_gap}
use Rattle.crew_duty.proofs.Gaps.{gap-most, no-gap, none-of, plain-followers, turned-followers}
use Rattle.crew_duty.proofs.InPlace.{by-slots}
use Rattle.crew_duty.proofs.departures.places_among.Goals as goal

pub without_early-requires : goal.without_early-requires
without_early-requires c =
    let s = c.args.settings.now in
    let flights = c.args.flights.now in
    let own = c.args.own.now in
    let before = c.args.before.now in
    let places = c.in_ok-places.places.items in
    let stands = by-slots s (least_gap s own) before c.args.latest c.args.slots.now c.args.after.now places c.requires.checked (gap-most s own) c.requires.code c.requires.time c.requires.most c.requires.after
    c.in_ok-places.ensures.same c.in_ok-places.ensures.sorted flights c.requires.index in
    rw c.deref.ensures.value (filter (is_after_by s (least_gap s own) c.args.latest before) flights, stands)

pub returns-then-is_empty : goal.returns-then-is_empty
returns-then-is_empty c = λ turns e.
    let s = c.args.settings.now in
    let flights = c.args.flights.now in
    let own = c.args.own.now in
    let before = c.args.before.now in
    let places = c.in_ok-places.places.items in
    let stands = by-slots s (least_gap s own) before c.args.latest c.args.slots.now c.args.after.now places c.requires.checked (gap-most s own) c.requires.code c.requires.time c.requires.most c.requires.after
    c.in_ok-places.ensures.same c.in_ok-places.ensures.sorted flights c.requires.index in
    subst (λ (fs : List Flight). StandAt flights places fs) (plain-followers s turns own c.args.latest before flights e (none-of own (sym c.is_empty.ensures ∙ c.if-is_empty.true))) stands

pub returns : goal.returns
returns c =
    let s = c.args.settings.now in
    let flights = c.args.flights.now in
    let own = c.args.own.now in
    let before = c.args.before.now in
    let places = c.in_ok-places.places.items in
    let stands = by-slots s (least_gap s own) before c.args.latest c.args.slots.now c.args.after.now places c.requires.checked (gap-most s own) c.requires.code c.requires.time c.requires.most c.requires.after
    c.in_ok-places.ensures.same c.in_ok-places.ensures.sorted flights c.requires.index in
    IfOk-then c.without_early.result _ _ c.without_early.ensures
    (λ kept on turns e. subst (λ (fs : List Flight). StandAt flights kept.items fs) (turned-followers s turns own c.args.latest before flights e (no-gap s own (sym c.is_empty.ensures ∙ c.if-is_empty.false)))
    (on (filter (is_after_by s (least_gap s own) c.args.latest before) flights) (rw c.deref.ensures.value stands)))
