use Rattle.std.proofs.Common.{◌≡◌, ◌∷◌, ◌-◌, false, nat_lt, w64, ℤ, pos, ◌-ℤ◌, ◌≤ℤ◌, to_z, of_z, ap, sym, ◌∙◌, arith, max, min}
use Rattle.std.specs.Prelude.{int_lt, slice_index}
use Rattle.std.proofs.lemmas.Bool.Decides.{nat_tests}
use Rattle.std.proofs.lemmas.Int.{ints}
use Rattle.crew_rules.specs.Tables.{table_a, table_b}
use Rattle.crew_pairing.specs.Legality.{deadheads, flight_duty_period, flight_time, last_of, segments}
use Rattle.crew_flights.specs.declared.flight.Flight.{Flight}
use Rattle.crew_duty.proofs.limits.Limits.forbid.Goals as goal

not-more : (a b : ℤ) → b ≤ℤ a → int_lt a b ≡ false
not-more a b h = grind (arith, ints)

pub returns-else-totals-from : goal.returns-else-totals-from
returns-else-totals-from c = λ s first others are come last.
    let legs = first ∷ others in
    let clock = first.flight.report_clock in
    let ridden : nat_lt s.deadheads (deadheads legs) ≡ false = grind (arith, nat_tests, come.deadheads, are.deadheads, c.if-totals-self.false) in
    let fly : flight_time first others ≤ℤ pos (table_a clock) = omega (arith, ints, come.fly, are.fly, c.from.ensures, c.if-totals-from.false) in
    let flown = not-more (pos (table_a clock)) (flight_time first others) fly in
    let arrival : (last_of first others).flight.arr ≡ c.get.result = ap (λ (f : Flight). f.arr) last ∙ sym c.get.ensures.value in
    let period : to_z w64 (of_z w64 (to_z w64 (of_z w64 c.get.result) -ℤ to_z w64 (of_z w64 c.args.self.now.report))) ≡ flight_duty_period s first others = omega (arith, ints, arrival, are.report, are.report_least, are.report_most, c.get.ensures) in
    let place : c.clamp.result - 1 ≡ min (max (segments legs) 1) 7 - 1 = omega (arith, c.clamp.ensures, come.segments) in
    let held : c.from-else-totals-from.result ≡ pos (slice_index c.args.self.now.periods (c.clamp.result - 1)) = c.from-else-totals-from.ensures in
    let limit : c.from-else-totals-from.result ≡ pos (table_b clock (max (segments legs) 1)) = held ∙ (λ i. pos (slice_index (are.periods i) (place i))) in
    let most : to_z w64 (of_z w64 c.from-else-totals-from.result) ≡ pos (table_b clock (max (segments legs) 1)) = omega (arith, ints, limit) in
    rw (ridden, flown) (λ i. int_lt (most i) (period i))
