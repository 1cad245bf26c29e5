use Rattle.std.proofs.Common.{◌≡◌, ◌≤◌, ◌<◌, ◌∙◌, ap, length, subst, sum, arith}
use Rattle.crew_pairing.specs.Duties.{flights_of}
use Rattle.crew_pairing.specs.Flights.{Flights}
use Rattle.crew_pairing.specs.Machinery.Listing.{all_duties}
use Rattle.crew_duty.specs.Machinery.Held.{over}
use Rattle.crew_duty.proofs.Counts.{counts-few, counts-over}
use Rattle.crew_pairing.proofs.InOrder.{all-duties}
use Rattle.crew_pairing.proofs.Timetables.{flights-few, flights-of-timetable}
use Rattle.crew_duty.proofs.Planned.{both-held, is-plan}
use Rattle.crew_duty.proofs.duties.list_duties.Goals as goal

pub index_of-requires : goal.index_of-requires
index_of-requires g c = rw (c.deref.ensures.value, c.in_ok-flights.ensures.held) (flights-few c.args.timetable.now c.placed_flights.ensures.sound)

pub count_all-requires-after_bounds : goal.count_all-requires-after_bounds
count_all-requires-after_bounds g c = λ κs q.
    is-plan c.args.settings.now c.args.timetable.now c.deref.result.now c.deref-2.result.now c.deref-4.result.now c.in_ok-turns.turns c.deref-5.result.now c.deref-6.result.now c.requires c.placed_flights.ensures.sound
    (c.deref.ensures.value ∙ c.in_ok-flights.ensures.held) (c.deref-2.ensures.value ∙ c.in_ok-flights.ensures.held) (c.deref-4.ensures.value ∙ c.in_ok-flights.ensures.held) c.in_ok-turns.ensures
    (rw c.deref-5.ensures.value c.in_ok-slots.ensures) (rw c.deref-6.ensures.value c.in_ok-next.ensures)

pub returns-then-total-gt-DUTIES-clause-too_many : goal.returns-then-total-gt-DUTIES-clause-too_many
returns-then-total-gt-DUTIES-clause-too_many g c =
    let s = c.args.settings.now in
    let t = c.args.timetable.now in
    let flights = over c.deref-4.result.now c.in_ok-turns.turns in
    let same : flights ≡ flights_of t = both-held c.deref-4.result.now c.in_ok-turns.turns t (c.deref-4.ensures.value ∙ c.in_ok-flights.ensures.held) c.in_ok-turns.ensures in
    let more : 200_000 < sum c.in_ok-counts.counts.items = omega (arith, ap sum c.deref-7.ensures.value, c.total_of-total.ensures, c.if-total-gt-DUTIES.true) in
    let many = counts-over s flights c.in_ok-counts.counts.items c.in_ok-counts.ensures more in
    λ e. (
      all_duties s (flights_of t),
      all-duties s (flights_of t) (flights-of-timetable t c.placed_flights.ensures.sound),
      subst (λ (fs : Flights). 200_000 < length (all_duties s fs)) same many,
    )

pub list_all-requires-clause-plan : goal.list_all-requires-clause-plan
list_all-requires-clause-plan g c = λ κs q.
    is-plan c.args.settings.now c.args.timetable.now c.deref.result.now c.deref-2.result.now c.deref-4.result.now c.in_ok-turns.turns c.deref-5.result.now c.deref-6.result.now c.requires c.placed_flights.ensures.sound
    (c.deref.ensures.value ∙ c.in_ok-flights.ensures.held) (c.deref-2.ensures.value ∙ c.in_ok-flights.ensures.held) (c.deref-4.ensures.value ∙ c.in_ok-flights.ensures.held) c.in_ok-turns.ensures
    (rw c.deref-5.ensures.value c.in_ok-slots.ensures) (rw c.deref-6.ensures.value c.in_ok-next.ensures)

pub returns-clause-listed : goal.returns-clause-listed
returns-clause-listed g c =
    let s = c.args.settings.now in
    let t = c.args.timetable.now in
    let flights = over c.deref-4.result.now c.in_ok-turns.turns in
    let same : flights ≡ flights_of t = both-held c.deref-4.result.now c.in_ok-turns.turns t (c.deref-4.ensures.value ∙ c.in_ok-flights.ensures.held) c.in_ok-turns.ensures in
    let listed : c.in_ok-list_all.field-0 ≡ all_duties s (flights_of t) = c.in_ok-list_all.ensures ∙ ap (λ (fs : Flights). all_duties s fs) same in
    rw listed (all-duties s (flights_of t) (flights-of-timetable t c.placed_flights.ensures.sound))

pub returns-clause-few : goal.returns-clause-few
returns-clause-few g c =
    let counts = c.in_ok-counts.counts.items in
    let seen = ap sum c.deref-7.ensures.value in
    let few : sum counts ≤ 200_000 = omega (arith, seen, c.total_of-total.ensures, c.if-total-gt-DUTIES.false) in
    let all = counts-few c.args.settings.now (over c.deref-4.result.now c.in_ok-turns.turns) counts c.in_ok-counts.ensures few in
    omega (arith, ap length c.in_ok-list_all.ensures, all, few)

pub next_flights-requires-clause-index : goal.next_flights-requires-clause-index
next_flights-requires-clause-index g c =
    let index = rw c.deref.ensures.value at c.in_ok-slots.ensures in
    rw (c.deref-2.ensures.value, c.deref-3.ensures.value) index

pub list_all-requires-clause-counts : goal.list_all-requires-clause-counts
list_all-requires-clause-counts g c = λ κs q. rw c.deref-8.ensures.value c.in_ok-counts.ensures

pub list_all-requires-clause-total : goal.list_all-requires-clause-total
list_all-requires-clause-total g c = λ κs q. omega (arith, c.total_of-total.ensures, c.if-total-gt-DUTIES.false, ap sum c.deref-7.ensures.value, ap sum c.deref-8.ensures.value)

pub list_all-requires-clause-few : goal.list_all-requires-clause-few
list_all-requires-clause-few g c = λ κs q. omega (arith, c.if-total-gt-DUTIES.false)
