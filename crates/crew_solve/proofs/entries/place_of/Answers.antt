use Rattle.std.proofs.Common.{◌≡◌, ◌∙◌, ◌<◌, ◌≤◌, ap, sym, length, get_or, arith, to_z, of_z, w64}
use Rattle.std.proofs.lemmas.Int.{ints}
use Rattle.crew_net.specs.Events.{leaves_at}
use Rattle.crew_pairing.specs.Events.{departure_of}
use Rattle.crew_pairing.specs.declared.events.Departure.{Departure}
use Rattle.crew_net.specs.Machinery.Numbered.{is_departure}
use Rattle.crew_net.specs.Positions.{in_order}
use Rattle.crew_solve.proofs.Departing.{departs, get-by}
use Rattle.crew_solve.proofs.Early.{early-as, early-none}
use Rattle.crew_solve.proofs.Shown.{place-here, place-none}
use Rattle.crew_solve.proofs.entries.place_of.Goals as goal

pub bounds-departures-places : goal.bounds-departures-places
bounds-departures-places c =
    let net = c.args.net.now in
    let index = c.loop-index.index in
    let h : index < length net.by_report = omega (arith, c.loop-index-test.true, ap length c.by_report-places.ensures.places) in
    let d = departs net index c.by_report-places.ensures.exact h in
    omega (arith, d.within, ap (λ l. get_or l index 0) c.by_report-places.ensures.places, ap length c.departures-departures.ensures.events)

pub returns-then-is_left_by-clause-place : goal.returns-then-is_left_by-clause-place
returns-then-is_left_by-clause-place c =
    let net = c.args.net.now in
    let g = departure_of c.args.duty.now in
    let index = c.loop-index.index in
    let h : index < length net.by_report = omega (arith, c.loop-index-test.true, ap length c.by_report-places.ensures.places) in
    let d = departs net index c.by_report-places.ensures.exact h in
    let event = c.index-departures-places.result in
    let is = c.index-departures-places.is ∙ ((λ i. get_or (c.departures-departures.ensures.events i) (get_or (c.by_report-places.ensures.places i) index 0) event) ∙ get-by net.departures (get_or net.by_report index 0) event d.departure d.own) in
    let test = ap (λ (e : Departure). leaves_at e c.args.duty.now) (sym is) ∙ (sym c.is_left_by.ensures ∙ c.if-is_left_by.true) in
    sym (place-here (λ e. is_departure e g) (in_order net) index d.departure d.stands c.loop-index.invariant test)

pub loop-index-preserved : goal.loop-index-preserved
loop-index-preserved c =
    let net = c.args.net.now in
    let g = departure_of c.args.duty.now in
    let index = c.loop-index.index in
    let h : index < length net.by_report = omega (arith, c.loop-index-test.true, ap length c.by_report-places.ensures.places) in
    let d = departs net index c.by_report-places.ensures.exact h in
    let event = c.index-departures-places.result in
    let is = c.index-departures-places.is ∙ ((λ i. get_or (c.departures-departures.ensures.events i) (get_or (c.by_report-places.ensures.places i) index 0) event) ∙ get-by net.departures (get_or net.by_report index 0) event d.departure d.own) in
    let test = ap (λ (e : Departure). leaves_at e c.args.duty.now) (sym is) ∙ (sym c.is_left_by.ensures ∙ c.if-is_left_by.false) in
    place-none (λ e. is_departure e g) (in_order net) index d.departure d.stands c.loop-index.invariant test

pub loop-index-init : goal.loop-index-init
loop-index-init c =
    let net = c.args.net.now in
    let d = c.args.duty.now in
    let first = c.early_count-first.result in
    let few : first ≤ length net.by_report = omega (arith, c.early_count-first.ensures.within, ap length c.by_report-places.ensures.places) in
    let at : to_z w64 (of_z w64 c.from.result) ≡ d.report = omega (arith, ints) in
    early-none net d first c.by_report-places.ensures.exact few
    (λ k l. early-as _ net.departures _ net.by_report _ d.report k c.departures-departures.ensures.events c.by_report-places.ensures.places at (c.early_count-first.ensures.early k l))
