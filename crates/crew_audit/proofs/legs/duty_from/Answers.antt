use Rattle.std.proofs.Common.{◌≡◌, ◌∷◌, ℤ, pos, ◌-ℤ◌, ◌≤ℤ◌, ◌∙◌, ap, arith, length, map, of_z, subst, sym, to_z, w32, w64}
use Rattle.std.proofs.lemmas.Grind.{common_steps}
use Rattle.std.proofs.lemmas.Int.{ints}
use Rattle.crew_rules.specs.Pay.{duty_pay}
use Rattle.crew_pairing.specs.declared.leg.TimedLeg.{TimedLeg}
use Rattle.crew_pairing.specs.Legality.{flight_duty_period, flight_time, last_of, leg_of, price_of, release, report, total}
use Rattle.crew_audit.specs.Machinery.Ranges.{IsInRange}
use Rattle.crew_audit.proofs.Chains.{made-in-range}
use Rattle.crew_audit.proofs.ReadNumbers.{no-later, read-elapsed, read-flown, read-pay, read-period, read-price, read-time}
use Rattle.crew_pairing.proofs.Paid.{legs-paid}
use Rattle.crew_pairing.proofs.Times.{ends-later, flown-total}
use Rattle.crew_audit.proofs.legs.duty_from.Goals as goal

pub duty_pay-requires-clause-elapsed : goal.duty_pay-requires-clause-elapsed
duty_pay-requires-clause-elapsed c =
    let first = c.args.first.now in
    let others = c.args.others.now in
    let s = c.args.settings.now in
    let report_is = c.report-report.ensures.value in
    let release_is = c.release-release.ensures.value in
    let late = ends-later s c.requires.connected.0 first others c.requires.sound c.requires.connected.1 in
    let end = (last_of first others).flight.arr in
    let ordered = no-later c.report-report.result first.flight.dep end c.release-release.result s.lead s.debrief report_is release_is late in
    let elapsed = read-elapsed c.release-release.result c.report-report.result c.report-report.ensures.bound.0 ordered c.release-release.ensures.bound.1 in
    elapsed.minutes

pub duty_pay-requires-clause-flight : goal.duty_pay-requires-clause-flight
duty_pay-requires-clause-flight c =
    let flown = flown-total (c.args.first.now ∷ c.args.others.now) c.requires.sound in
    (read-flown c.flight_time-fly.result _ (length c.args.others.now) c.flight_time-fly.ensures flown.0 flown.1 c.requires.few).minutes

pub overflow_cast-result-3 : goal.overflow_cast-result-3
overflow_cast-result-3 c =
    let first = c.args.first.now in
    let others = c.args.others.now in
    let s = c.args.settings.now in
    let report_is = c.report-report.ensures.value in
    let release_is = c.release-release.ensures.value in
    let late = ends-later s c.requires.connected.0 first others c.requires.sound c.requires.connected.1 in
    let end = (last_of first others).flight.arr in
    let period = read-period c.flight_duty_period.result c.report-report.result first.flight.dep end c.release-release.result s.lead s.debrief c.flight_duty_period.ensures report_is release_is late
    c.report-report.ensures.bound.0 c.release-release.ensures.bound.1 in
    period.fits

pub overflow_cast-result-4 : goal.overflow_cast-result-4
overflow_cast-result-4 c =
    let flown = flown-total (c.args.first.now ∷ c.args.others.now) c.requires.sound in
    (read-flown c.flight_time-fly.result _ (length c.args.others.now) c.flight_time-fly.ensures flown.0 flown.1 c.requires.few).fits

ap_two : {A B C : Type 0} {a b : A} {x y : B} (f : A → B → C) → a ≡ b → x ≡ y → f a x ≡ f b y
ap_two f p q = λ i. f (p i) (q i)

pub overflow_cast-result-5 : goal.overflow_cast-result-5
overflow_cast-result-5 c =
    let first = c.args.first.now in
    let others = c.args.others.now in
    let s = c.args.settings.now in
    let report_is = c.report-report.ensures.value in
    let release_is = c.release-release.ensures.value in
    let late = ends-later s c.requires.connected.0 first others c.requires.sound c.requires.connected.1 in
    let end = (last_of first others).flight.arr in
    let ordered = no-later c.report-report.result first.flight.dep end c.release-release.result s.lead s.debrief report_is release_is late in
    let elapsed = read-elapsed c.release-release.result c.report-report.result c.report-report.ensures.bound.0 ordered c.release-release.ensures.bound.1 in
    let flown = flown-total (first ∷ others) c.requires.sound in
    let fly = read-flown c.flight_time-fly.result (flight_time first others) (length others) c.flight_time-fly.ensures flown.0 flown.1 c.requires.few in
    let elapsed-is : to_z w64 (of_z w64 (to_z w64 (of_z w64 c.release-release.result) -ℤ to_z w64 (of_z w64 c.report-report.result))) ≡ release s first others -ℤ report s first =
    elapsed.value ∙ (λ i. release_is i -ℤ report_is i) in
    let paid : c.duty_pay.result ≡ duty_pay s (release s first others -ℤ report s first) (flight_time first others) = c.duty_pay.ensures ∙ ap_two (λ (e f : ℤ). duty_pay s e f) elapsed-is fly.value in
    let bounds = legs-paid s c.requires.connected.0 first others c.requires.checked c.requires.few c.requires.sound c.requires.connected.1 (subst (λ (z : ℤ). pos 15_000_000 ≤ℤ z) report_is c.report-report.ensures.bound.0)
    (subst (λ (z : ℤ). z ≤ℤ pos 70_000_000) release_is c.release-release.ensures.bound.1) in
    let pay = read-pay c.duty_pay.result (duty_pay s (release s first others -ℤ report s first) (flight_time first others)) paid bounds.0 bounds.1 in
    pay.fits

pub returns-clause-value : goal.returns-clause-value
returns-clause-value c =
    let first = c.args.first.now in
    let others = c.args.others.now in
    let s = c.args.settings.now in
    let report_is = c.report-report.ensures.value in
    let release_is = c.release-release.ensures.value in
    let late = ends-later s c.requires.connected.0 first others c.requires.sound c.requires.connected.1 in
    let end = (last_of first others).flight.arr in
    let ordered = no-later c.report-report.result first.flight.dep end c.release-release.result s.lead s.debrief report_is release_is late in
    let elapsed = read-elapsed c.release-release.result c.report-report.result c.report-report.ensures.bound.0 ordered c.release-release.ensures.bound.1 in
    let period = read-period c.flight_duty_period.result c.report-report.result first.flight.dep end c.release-release.result s.lead s.debrief c.flight_duty_period.ensures report_is release_is late
    c.report-report.ensures.bound.0 c.release-release.ensures.bound.1 in
    let flown = flown-total (first ∷ others) c.requires.sound in
    let fly = read-flown c.flight_time-fly.result (flight_time first others) (length others) c.flight_time-fly.ensures flown.0 flown.1 c.requires.few in
    let elapsed-is : to_z w64 (of_z w64 (to_z w64 (of_z w64 c.release-release.result) -ℤ to_z w64 (of_z w64 c.report-report.result))) ≡ release s first others -ℤ report s first =
    elapsed.value ∙ (λ i. release_is i -ℤ report_is i) in
    let paid : c.duty_pay.result ≡ duty_pay s (release s first others -ℤ report s first) (flight_time first others) = c.duty_pay.ensures ∙ ap_two (λ (e f : ℤ). duty_pay s e f) elapsed-is fly.value in
    let bounds = legs-paid s c.requires.connected.0 first others c.requires.checked c.requires.few c.requires.sound c.requires.connected.1 (subst (λ (z : ℤ). pos 15_000_000 ≤ℤ z) report_is c.report-report.ensures.bound.0)
    (subst (λ (z : ℤ). z ≤ℤ pos 70_000_000) release_is c.release-release.ensures.bound.1) in
    let pay = read-pay c.duty_pay.result (duty_pay s (release s first others -ℤ report s first) (flight_time first others)) paid bounds.0 bounds.1 in
    let key-is : c.loop-leg.key ≡ map leg_of (first ∷ others) = grind (arith, common_steps) in
    let report-32 : to_z w32 (of_z w32 (to_z w64 (of_z w64 c.report-report.result))) ≡ report s first = read-time c.report-report.result c.report-report.ensures.bound.0 c.report-report.ensures.bound.1 ∙ report_is in
    let release-32 : to_z w32 (of_z w32 (to_z w64 (of_z w64 c.release-release.result))) ≡ release s first others = read-time c.release-release.result c.release-release.ensures.bound.0 c.release-release.ensures.bound.1 ∙ release_is in
    let fdp-is : to_z w32 (of_z w32 (to_z w64 (of_z w64 c.flight_duty_period.result))) ≡ flight_duty_period s first others = period.value_is ∙ c.flight_duty_period.ensures in
    let price-is : to_z w64 (of_z w64 c.price.result) ≡ total price_of (first ∷ others) = read-price c.price.result c.price.ensures.bound.0 c.price.ensures.bound.1 ∙ c.price.ensures.value in
    let to-is : c.last_leg.result.flight.to ≡ (last_of first others).flight.to = ap (λ (l : TimedLeg). l.flight.to) c.last_leg.ensures in
    λ i. record { key = key-is i; from = first.flight.from; to = to-is i; report = report-32 i; release = release-32 i; fdp = fdp-is i; fly = fly.value_is i; pay = pay.value_is i; price = price-is i }

pub returns-clause-range : goal.returns-clause-range
returns-clause-range c =
    let first = c.args.first.now in
    let others = c.args.others.now in
    let s = c.args.settings.now in
    let report = rw c.report-report.ensures.value at c.report-report.ensures.bound in
    let release = rw c.release-release.ensures.value at c.release-release.ensures.bound in
    let price = rw c.price.ensures.value at c.price.ensures.bound in
    subst IsInRange (sym (returns-clause-value c)) (made-in-range s c.requires.connected.0 first others c.requires.checked c.requires.sound c.requires.connected.1 c.requires.few report.0 report.1 release.0 release.1 price.0 price.1)

pub loop-leg-preserved : goal.loop-leg-preserved
loop-leg-preserved c = grind (arith, common_steps)

pub overflow_sub-release : goal.overflow_sub-release
overflow_sub-release c =
    let report = c.report-report.ensures.bound in
    let release = c.release-release.ensures.bound in
    omega (arith, ints, report, release)
