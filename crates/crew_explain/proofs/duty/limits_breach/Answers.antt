use Rattle.std.proofs.Common.{◌≡◌, ◌≤◌, ◌+◌, ◌∙◌, ◌∷◌, [], ap, arith, length, not, of_z, pos, to_z, w64}
use Rattle.std.proofs.lemmas.Int.{ints}
use Rattle.std.proofs.lemmas.List.Sums.{count_by-le-length}
use Rattle.crew_rules.specs.Tables.{table_a, table_b}
use Rattle.crew_pairing.specs.Legality.{deadheads, flight_duty_period, flight_time, last_of, segments}
use Rattle.crew_pairing.specs.declared.leg.TimedLeg.{TimedLeg}
use Rattle.crew_explain.specs.Rules.{first_of, told}
use Rattle.crew_explain.specs.declared.breach.Rule.TheVariants as The
use Rattle.crew_explain.specs.declared.explained.Limits.{Limits}
use Rattle.crew_explain.proofs.Asking.{asked}
use Rattle.crew_explain.proofs.duty.limits_breach.Goals as goal

pub returns : goal.returns
returns c =
    let s = c.args.settings.now in
    let first = c.args.first.now in
    let others = c.args.others.now in
    let most = c.requires.checked.deadheads in
    let clock = first.flight.report_clock in
    let may = c.limits_of-limits.ensures in
    let few = count_by-le-length (λ (l : TimedLeg). l.deadhead) (first ∷ others) in
    let ridden : c.deadheads-ridden.result ≡ deadheads (first ∷ others) = c.deadheads-ridden.ensures in
    let least : deadheads (first ∷ others) ≤ 8 = omega (arith, few, c.requires.few) in
    let fly : to_z w64 (of_z w64 c.flight_time-fly.result) ≡ flight_time first others = (let same : to_z w64 (of_z w64 c.flight_time-fly.result) ≡ c.flight_time-fly.result = omega (arith, ints, c.flight_time-fly.type_inv) in same) ∙ c.flight_time-fly.ensures in
    let fdp : to_z w64 (of_z w64 c.flight_duty_period-fdp.result) ≡ flight_duty_period s first others = (let same : to_z w64 (of_z w64 c.flight_duty_period-fdp.result) ≡ c.flight_duty_period-fdp.result = omega (arith, ints, c.flight_duty_period-fdp.type_inv) in same) ∙ c.flight_duty_period-fdp.ensures in
    let fly-most : c.limits_of-limits.result.fly ≡ table_a clock = ap (λ (l : Limits). l.fly) may in
    let fdp-most : c.limits_of-limits.result.fdp ≡ table_b clock (segments (first ∷ others)) = ap (λ (l : Limits). l.fdp) may in
    let one = c.at_most.ensures ∙ asked The.Deadheads c.args.duty 0 _ _ (pos (deadheads (first ∷ others))) (pos s.deadheads) (omega (arith, ints, ridden, least)) (omega (arith, ints, c.from-most.ensures, most)) in
    let two : (not c.last_leg-last.result.deadhead, c.of.result) ≡ (not (last_of first others).deadhead, told The.LastLeg c.args.duty (length others + 1)) = λ i. (not (c.last_leg-last.ensures i).deadhead, c.of.ensures i) in
    let three = c.at_most-2.ensures ∙ asked The.FlightTime c.args.duty 0 _ _ (flight_time first others) (pos (table_a clock)) fly (omega (arith, ints, c.from.ensures, fly-most)) in
    let four = c.at_most-3.ensures ∙ asked The.FlightDuty c.args.duty 0 _ _ (flight_duty_period s first others) (pos (table_b clock (segments (first ∷ others)))) fdp (omega (arith, ints, c.from-2.ensures, fdp-most)) in
    c.first_broken.ensures ∙ (λ i. first_of (one i ∷ two i ∷ three i ∷ four i ∷ []))
