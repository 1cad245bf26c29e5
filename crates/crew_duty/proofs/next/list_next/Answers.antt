use Rattle.std.proofs.Common.{◌≡◌, ◌<◌, ◌∙◌, ℤ, List, length, arith, refl, rules, subst, sym}
use Rattle.std.specs.Prelude.{IfOk}
use Rattle.crew_flights.specs.declared.flight.Flight.{Flight}
use Rattle.crew_pairing.specs.Duties.{AreDutiesOver, flights_of}
use Rattle.crew_pairing.specs.Flights.{Flights}
use Rattle.crew_pairing.specs.Machinery.Listing.{all_duties}
use Rattle.crew_pairing.proofs.InOrder.{all-duties}
use Rattle.crew_pairing.proofs.Timetables.{flights-of-timetable}
use Rattle.crew_duty.specs.Machinery.Held.{over}
use Rattle.crew_duty.specs.Machinery.Kept.{AreChanges, AreKept, IsPast}
use Rattle.crew_duty.specs.Machinery.Prices.{AreSameButPrices}
use Rattle.crew_duty.proofs.Kept.{past-of}
use Rattle.crew_duty.proofs.NewPrices.{few-legs}
use Rattle.crew_duty.proofs.Planned.{both-held, held-few, held-flights}
use Rattle.crew_duty.proofs.next.list_next.Goals as goal

pub list_priced-requires-clause-few : goal.list_priced-requires-clause-few
list_priced-requires-clause-few g c = few-legs c.args.settings.now (flights_of c.args.earlier.now) c.args.duties.now c.requires.earlier

pub list_priced-requires-clause-flights : goal.list_priced-requires-clause-flights
list_priced-requires-clause-flights g c =
    let now = c.args.timetable.now in
    (now.turns, held-flights c.deref-then-can_reprice.result.now now.turns now c.placed_flights-2.ensures.sound (c.deref-then-can_reprice.ensures.value ∙ c.in_ok-flights.ensures.held) refl)

-- the same, over flights and turns that are held
same-both : {a b x y : Flights} → AreSameButPrices a b → a ≡ x → b ≡ y → AreSameButPrices x y
same-both {a} {b} {x} {y} same e k = subst (λ (fs : Flights). AreSameButPrices x fs) k (subst (λ (fs : Flights). AreSameButPrices fs b) e same)

told-both : {a b x y : Flights} {minutes : List ℤ} → AreChanges a b minutes → a ≡ x → b ≡ y → AreChanges x y minutes
told-both {a} {b} {x} {y} {minutes} told e k = subst (λ (fs : Flights). AreChanges x fs minutes) k (subst (λ (fs : Flights). AreChanges fs b minutes) e told)

pub blocks-requires-clause-past : goal.blocks-requires-clause-past
blocks-requires-clause-past g c =
    let s = c.args.settings.now in
    let now = c.args.timetable.now in
    let before = c.args.earlier.now in
    let turns = c.in_ok-turns.turns in
    let here = both-held c.deref-3.result.now turns now (c.deref-3.ensures.value ∙ c.in_ok-flights.ensures.held) c.in_ok-turns.ensures in
    let old = both-held c.deref-4.result.now c.in_ok-turns_before.turns_before before (c.deref-4.ensures.value ∙ c.in_ok-before.ensures.held) c.in_ok-turns_before.ensures in
    let told = told-both c.in_ok-minutes.ensures here old in
    let past = past-of s now before c.args.duties.now c.in_ok-minutes.minutes.items c.requires.checked c.placed_flights-2.ensures.sound c.placed_flights.ensures.sound c.requires.earlier told in
    let asked = both-held c.deref-6.result.now turns now (c.deref-6.ensures.value ∙ c.in_ok-flights.ensures.held) c.in_ok-turns.ensures in
    let known : IsPast s (over c.deref-6.result.now turns) c.args.duties.now c.deref-5.result.now = rw c.deref-5.ensures.value (subst (λ (fs : Flights). IsPast s fs c.args.duties.now c.in_ok-minutes.minutes.items) (sym asked) past) in
    (turns, known)

pub list_beside-requires-clause-flights : goal.list_beside-requires-clause-flights
list_beside-requires-clause-flights g c =
    let now = c.args.timetable.now in
    held-flights c.deref-9.result.now c.in_ok-turns.turns now c.placed_flights-2.ensures.sound (c.deref-9.ensures.value ∙ c.in_ok-flights.ensures.held) c.in_ok-turns.ensures

pub list_beside-requires-clause-few : goal.list_beside-requires-clause-few
list_beside-requires-clause-few g c =
    let now = c.args.timetable.now in
    held-few c.deref-9.result.now now c.placed_flights-2.ensures.sound (c.deref-9.ensures.value ∙ c.in_ok-flights.ensures.held)

pub returns-clause-too_many : goal.returns-clause-too_many
returns-clause-too_many g c = λ e.
    let s = c.args.settings.now in
    let now = c.args.timetable.now in
    let fs = both-held c.deref-9.result.now c.in_ok-turns.turns now (c.deref-9.ensures.value ∙ c.in_ok-flights.ensures.held) c.in_ok-turns.ensures in (
      all_duties s (flights_of now),
      all-duties s (flights_of now) (flights-of-timetable now c.placed_flights-2.ensures.sound),
      subst (λ (l : Flights). 200_000 < length (all_duties s l)) fs (c.list_beside.ensures.too_many e),
    )

pub returns-then-can_reprice-clause-listed : goal.returns-then-can_reprice-clause-listed
returns-then-can_reprice-clause-listed g c =
    let s = c.args.settings.now in
    let now = c.args.timetable.now in
    let before = c.args.earlier.now in
    let new = both-held c.deref.result.now c.in_ok-turns.turns now (c.deref.ensures.value ∙ c.in_ok-flights.ensures.held) c.in_ok-turns.ensures in
    let old = both-held c.deref-2.result.now c.in_ok-turns_before.turns_before before (c.deref-2.ensures.value ∙ c.in_ok-before.ensures.held) c.in_ok-turns_before.ensures in
    let same = same-both (c.if-can_reprice.ensures.same refl) new old in
    let asked = both-held c.deref-then-can_reprice.result.now now.turns now (c.deref-then-can_reprice.ensures.value ∙ c.in_ok-flights.ensures.held) refl in
    subst (λ (fs : Flights). AreDutiesOver s fs c.in_ok-list_priced.field-0) asked
    (c.in_ok-list_priced.ensures.listed s now.turns (flights_of before) (subst (λ (fs : Flights). AreSameButPrices fs (flights_of before)) (sym asked) same) c.requires.earlier)

pub returns-then-can_reprice-clause-few : goal.returns-then-can_reprice-clause-few
returns-then-can_reprice-clause-few g c =
    let few = c.if-can_reprice.ensures.few refl in
    omega (arith, c.in_ok-list_priced.ensures.count, few)

pub list_beside-requires-clause-minutes : goal.list_beside-requires-clause-minutes
list_beside-requires-clause-minutes g c = search rules

pub list_beside-requires-clause-kept : goal.list_beside-requires-clause-kept
list_beside-requires-clause-kept g c =
    let s = c.args.settings.now in
    let now = c.args.timetable.now in
    let before = c.args.earlier.now in
    let turns = c.in_ok-turns.turns in
    let here = both-held c.deref-3.result.now turns now (c.deref-3.ensures.value ∙ c.in_ok-flights.ensures.held) c.in_ok-turns.ensures in
    let old = both-held c.deref-4.result.now c.in_ok-turns_before.turns_before before (c.deref-4.ensures.value ∙ c.in_ok-before.ensures.held) c.in_ok-turns_before.ensures in
    let told = told-both c.in_ok-minutes.ensures here old in
    let past = past-of s now before c.args.duties.now c.in_ok-minutes.minutes.items c.requires.checked c.placed_flights-2.ensures.sound c.placed_flights.ensures.sound c.requires.earlier told in
    let asked = both-held c.deref-6.result.now turns now (c.deref-6.ensures.value ∙ c.in_ok-flights.ensures.held) c.in_ok-turns.ensures in
    let known : IsPast s (over c.deref-6.result.now turns) c.args.duties.now c.deref-5.result.now = rw c.deref-5.ensures.value (subst (λ (fs : Flights). IsPast s fs c.args.duties.now c.in_ok-minutes.minutes.items) (sym asked) past) in
    let first = c.deref-6.ensures.value ∙ sym c.deref-9.ensures.value in
    rw c.deref-8.ensures.value (subst (λ (l : List Flight). AreKept s (over l turns) c.args.duties.now l c.in_ok-blocks.blocks.items) first (c.in_ok-blocks.ensures turns known))

pub list_duties-requires-after_bounds : goal.list_duties-requires-after_bounds
list_duties-requires-after_bounds g c = search rules

pub returns-then-count_kept-len-clause-listed : goal.returns-then-count_kept-len-clause-listed
returns-then-count_kept-len-clause-listed g c = search rules

pub returns-then-count_kept-len-clause-too_many : goal.returns-then-count_kept-len-clause-too_many
returns-then-count_kept-len-clause-too_many g c = search rules

pub returns-clause-few : goal.returns-clause-few
returns-clause-few g c = search rules

pub returns-clause-listed : goal.returns-clause-listed
returns-clause-listed g c =
    let same = both-held c.deref-9.result.now c.in_ok-turns.turns c.args.timetable.now (c.deref-9.ensures.value ∙ c.in_ok-flights.ensures.held) c.in_ok-turns.ensures in
    subst (λ (fs : Flights). IfOk c.list_beside.result (λ duties. AreDutiesOver c.args.settings.now fs duties)) same c.list_beside.ensures.listed
