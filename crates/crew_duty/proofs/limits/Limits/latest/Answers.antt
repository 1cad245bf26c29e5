use Rattle.std.proofs.Common.{◌≡◌, ◌-◌, pos, ◌∙◌, arith, max, min}
use Rattle.std.specs.Prelude.{slice_index}
use Rattle.std.proofs.lemmas.Int.{ints}
use Rattle.crew_rules.specs.Tables.{table_b}
use Rattle.crew_pairing.specs.Legality.{segments}
use Rattle.crew_duty.proofs.limits.Limits.latest.Goals as goal

pub returns-clause-value : goal.returns-clause-value
returns-clause-value c = λ s first legs are come.
    let clock = first.flight.report_clock in
    let place : c.clamp.result - 1 ≡ min (max (segments legs) 1) 7 - 1 = omega (arith, c.clamp.ensures, come.segments) in
    let held : c.from.result ≡ pos (slice_index c.args.self.now.periods (c.clamp.result - 1)) = c.from.ensures in
    let limit : c.from.result ≡ pos (table_b clock (max (segments legs) 1)) = held ∙ (λ i. pos (slice_index (are.periods i) (place i))) in
    omega (arith, ints, limit, are.report, are.report_least, are.report_most)
