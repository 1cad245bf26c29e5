use Rattle.std.proofs.Common.{◌≡◌, ◌∷◌, ◌≤◌, ◌<◌, ◌*◌, ℕ, ℤ, Fits, pos, ◌-ℤ◌, ◌+ℤ◌, ◌≤ℤ◌, ◌∙◌, ap, arith, get_or, length, map, of_z, refl, subst, to_z, w32, w64}
use Rattle.std.proofs.lemmas.Option.{get_or_from_slice_get}
use Rattle.crew_flights.specs.declared.flight.Flight.{Flight}
use Rattle.crew_rules.specs.Pay.{duty_pay}
use Rattle.crew_pairing.specs.Legality.{flight_duty_period, flight_time, last_of, leg_of, price_of, release, report, total}
use Rattle.crew_pairing.proofs.Paid.{legs-paid}
use Rattle.crew_pairing.proofs.Times.{ends-later, flown-total}
use Rattle.crew_pairing.proofs.Tree.{slice_get-within}
use Rattle.crew_duty.specs.Machinery.Held.{held}
use Rattle.crew_duty.proofs.Paths.{path-sound}
use Rattle.crew_duty.proofs.ReadNumbers.{no-later, read-elapsed, read-flown, read-pay, read-price, read-times, release-most}
use Rattle.crew_duty.proofs.Running.{priced-total}
use Rattle.crew_duty.proofs.search.duty_from.Goals as goal

pub bounds-plan-last : goal.bounds-plan-last
bounds-plan-last c = slice_get-within c.args.plan.now.flights.now c.args.last _ c.requires.path.2.flight

-- the place of a flight in memory
offset-flight : (place n : ℕ) → place < n → n ≤ 5_000 → Fits w64 (place * 32)
offset-flight place n h k = omega arith

pub offset_bounds-plan-last : goal.offset_bounds-plan-last
offset_bounds-plan-last c = offset-flight c.args.last (length c.args.plan.now.flights.now) (slice_get-within c.args.plan.now.flights.now c.args.last _ c.requires.path.2.flight) c.requires.plan.few

pub overflow_cast-result-4 : goal.overflow_cast-result-4
overflow_cast-result-4 c =
    let path = c.requires.path.1 in
    let flown = flown-total (c.args.first.now ∷ c.requires.path.0) (path-sound c.requires.plan.are_flights path) in
    (read-flown c.args.totals.fly _ (length c.requires.path.0) path.are_totals.fly flown.0 flown.1 path.few).fits

pub duty_pay-requires-clause-elapsed : goal.duty_pay-requires-clause-elapsed
duty_pay-requires-clause-elapsed c =
    let s = c.args.plan.now.settings.now in
    let flights = held c.args.plan.now in
    let first = c.args.first.now in
    let limits = c.requires.limits in
    let others = c.requires.path.0 in
    let path = c.requires.path.1 in
    let ends = c.requires.path.2 in
    let flight = get_or_from_slice_get flights.list c.args.last _ c.index-plan-last.result ends.flight in
    let arrival : c.get-arrival.result ≡ (last_of first others).flight.arr = c.get-arrival.ensures.value ∙ ap (λ (f : Flight). f.arr) flight in
    let range = c.get-arrival.ensures.range in
    let debrief = c.requires.plan.checked.debrief in
    let times = read-times c.get-arrival.result c.args.limits.now.report c.from.result s.debrief c.from.ensures debrief range.from range.to limits.report_least limits.report_most in
    let release-is : c.get-arrival.result +ℤ c.from.result ≡ release s first others = λ i. arrival i +ℤ c.from.ensures i in
    let sum : to_z w64 (of_z w64 (to_z w64 (of_z w64 c.get-arrival.result) +ℤ to_z w64 (of_z w64 c.from.result))) ≡ release s first others = times.release ∙ release-is in
    let sound = path-sound c.requires.plan.are_flights path in
    let late = ends-later s flights.turns first others sound path.beginning.connected in
    let plain : release s first others ≡ (last_of first others).flight.arr +ℤ pos s.debrief = refl in
    let ordered = no-later c.args.limits.now.report first.flight.dep (last_of first others).flight.arr (last_of first others).flight.arr (release s first others) s.lead s.debrief limits.report refl late plain in
    let most = release-most (last_of first others).flight.arr (release s first others) s.debrief plain (subst (λ (z : ℤ). z ≤ℤ pos 68_375_519) arrival range.to) debrief in
    let elapsed = read-elapsed (release s first others) c.args.limits.now.report limits.report_least ordered most in
    rw sum elapsed.minutes

pub duty_pay-requires-clause-flight : goal.duty_pay-requires-clause-flight
duty_pay-requires-clause-flight c =
    let path = c.requires.path.1 in
    let flown = flown-total (c.args.first.now ∷ c.requires.path.0) (path-sound c.requires.plan.are_flights path) in
    (read-flown c.args.totals.fly _ (length c.requires.path.0) path.are_totals.fly flown.0 flown.1 path.few).minutes

ap_two : {A B C : Type 0} {a b : A} {x y : B} (f : A → B → C) → a ≡ b → x ≡ y → f a x ≡ f b y
ap_two f p q = λ i. f (p i) (q i)

pub overflow_cast-result-5 : goal.overflow_cast-result-5
overflow_cast-result-5 c =
    let s = c.args.plan.now.settings.now in
    let flights = held c.args.plan.now in
    let first = c.args.first.now in
    let limits = c.requires.limits in
    let others = c.requires.path.0 in
    let path = c.requires.path.1 in
    let ends = c.requires.path.2 in
    let flight = get_or_from_slice_get flights.list c.args.last _ c.index-plan-last.result ends.flight in
    let arrival : c.get-arrival.result ≡ (last_of first others).flight.arr = c.get-arrival.ensures.value ∙ ap (λ (f : Flight). f.arr) flight in
    let range = c.get-arrival.ensures.range in
    let debrief = c.requires.plan.checked.debrief in
    let times = read-times c.get-arrival.result c.args.limits.now.report c.from.result s.debrief c.from.ensures debrief range.from range.to limits.report_least limits.report_most in
    let release-is : c.get-arrival.result +ℤ c.from.result ≡ release s first others = λ i. arrival i +ℤ c.from.ensures i in
    let sum : to_z w64 (of_z w64 (to_z w64 (of_z w64 c.get-arrival.result) +ℤ to_z w64 (of_z w64 c.from.result))) ≡ release s first others = times.release ∙ release-is in
    let sound = path-sound c.requires.plan.are_flights path in
    let late = ends-later s flights.turns first others sound path.beginning.connected in
    let plain : release s first others ≡ (last_of first others).flight.arr +ℤ pos s.debrief = refl in
    let ordered = no-later c.args.limits.now.report first.flight.dep (last_of first others).flight.arr (last_of first others).flight.arr (release s first others) s.lead s.debrief limits.report refl late plain in
    let most = release-most (last_of first others).flight.arr (release s first others) s.debrief plain (subst (λ (z : ℤ). z ≤ℤ pos 68_375_519) arrival range.to) debrief in
    let elapsed = read-elapsed (release s first others) c.args.limits.now.report limits.report_least ordered most in
    let flown = flown-total (first ∷ others) sound in
    let fly = read-flown c.args.totals.fly (flight_time first others) (length others) path.are_totals.fly flown.0 flown.1 path.few in
    let elapsed-is : to_z w64 (of_z w64 (to_z w64 (of_z w64 (to_z w64 (of_z w64 c.get-arrival.result) +ℤ to_z w64 (of_z w64 c.from.result))) -ℤ to_z w64 (of_z w64 c.args.limits.now.report))) ≡ release s first others -ℤ report s first =
    rw sum elapsed.value ∙ ap (λ (z : ℤ). release s first others -ℤ z) limits.report in
    let paid : c.duty_pay.result ≡ duty_pay s (release s first others -ℤ report s first) (flight_time first others) = c.duty_pay.ensures ∙ ap_two (λ (e f : ℤ). duty_pay s e f) elapsed-is fly.value in
    let bounds = legs-paid s flights.turns first others c.requires.plan.checked path.few sound path.beginning.connected (subst (λ (z : ℤ). pos 15_000_000 ≤ℤ z) limits.report limits.report_least) most in
    let pay = read-pay c.duty_pay.result (duty_pay s (release s first others -ℤ report s first) (flight_time first others)) paid bounds.0 bounds.1 in
    pay.fits

pub returns : goal.returns
returns c = λ others path ends.
    let s = c.args.plan.now.settings.now in
    let flights = held c.args.plan.now in
    let first = c.args.first.now in
    let limits = c.requires.limits in
    let flight = get_or_from_slice_get flights.list c.args.last _ c.index-plan-last.result ends.flight in
    let arrival : c.get-arrival.result ≡ (last_of first others).flight.arr = c.get-arrival.ensures.value ∙ ap (λ (f : Flight). f.arr) flight in
    let range = c.get-arrival.ensures.range in
    let debrief = c.requires.plan.checked.debrief in
    let times = read-times c.get-arrival.result c.args.limits.now.report c.from.result s.debrief c.from.ensures debrief range.from range.to limits.report_least limits.report_most in
    let release-is : c.get-arrival.result +ℤ c.from.result ≡ release s first others = λ i. arrival i +ℤ c.from.ensures i in
    let sum : to_z w64 (of_z w64 (to_z w64 (of_z w64 c.get-arrival.result) +ℤ to_z w64 (of_z w64 c.from.result))) ≡ release s first others = times.release ∙ release-is in
    let sound = path-sound c.requires.plan.are_flights path in
    let late = ends-later s flights.turns first others sound path.beginning.connected in
    let plain : release s first others ≡ (last_of first others).flight.arr +ℤ pos s.debrief = refl in
    let ordered = no-later c.args.limits.now.report first.flight.dep (last_of first others).flight.arr (last_of first others).flight.arr (release s first others) s.lead s.debrief limits.report refl late plain in
    let most = release-most (last_of first others).flight.arr (release s first others) s.debrief plain (subst (λ (z : ℤ). z ≤ℤ pos 68_375_519) arrival range.to) debrief in
    let elapsed = read-elapsed (release s first others) c.args.limits.now.report limits.report_least ordered most in
    let flown = flown-total (first ∷ others) sound in
    let fly = read-flown c.args.totals.fly (flight_time first others) (length others) path.are_totals.fly flown.0 flown.1 path.few in
    let elapsed-is : to_z w64 (of_z w64 (to_z w64 (of_z w64 (to_z w64 (of_z w64 c.get-arrival.result) +ℤ to_z w64 (of_z w64 c.from.result))) -ℤ to_z w64 (of_z w64 c.args.limits.now.report))) ≡ release s first others -ℤ report s first =
    rw sum elapsed.value ∙ ap (λ (z : ℤ). release s first others -ℤ z) limits.report in
    let paid : c.duty_pay.result ≡ duty_pay s (release s first others -ℤ report s first) (flight_time first others) = c.duty_pay.ensures ∙ ap_two (λ (e f : ℤ). duty_pay s e f) elapsed-is fly.value in
    let bounds = legs-paid s flights.turns first others c.requires.plan.checked path.few sound path.beginning.connected (subst (λ (z : ℤ). pos 15_000_000 ≤ℤ z) limits.report limits.report_least) most in
    let pay = read-pay c.duty_pay.result (duty_pay s (release s first others -ℤ report s first) (flight_time first others)) paid bounds.0 bounds.1 in
    let key-is : c.copy.result ≡ map leg_of (first ∷ others) = c.copy.ensures ∙ path.is_key in
    let to-is : (get_or flights.list c.args.last c.index-plan-last.result).to ≡ (last_of first others).flight.to = ap (λ (f : Flight). f.to) flight in
    let report-is : to_z w32 (of_z w32 (to_z w64 (of_z w64 c.args.limits.now.report))) ≡ report s first = times.report_is ∙ limits.report in
    let release-32 = times.release_is ∙ release-is in
    let end : c.get-arrival.result -ℤ c.args.limits.now.report ≡ flight_duty_period s first others = λ i. arrival i -ℤ limits.report i in
    let fdp-is = times.fdp_is ∙ end in
    let priced = priced-total (first ∷ others) sound in
    let price-is = read-price c.args.totals.price (total price_of (first ∷ others)) (length others) path.are_totals.price priced.0 priced.1 path.few in
    λ i. record { key = key-is i; from = first.flight.from; to = to-is i; report = report-is i; release = release-32 i; fdp = fdp-is i; fly = fly.value_is i; pay = pay.value_is i; price = price-is i }
