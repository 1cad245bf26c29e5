use Rattle.std.proofs.Common.{pos, true≢false, sym, arith, rules}
use Rattle.jiff_core.specs.Calendar.{IsCivilDate}
use Rattle.jiff_core.proofs.SignedLemmas.{signed_arith}
use Rattle.crew_clocks.proofs.CivilFacts.{day-after_year, day-before_year, known-days}
use Rattle.crew_clocks.proofs.texts.minute_of.Goals as goal

pub returns-then-parts-lt2000 : goal.returns-then-parts-lt2000
returns-then-parts-lt2000 c = search rules

pub unreachable-requires : goal.unreachable-requires
unreachable-requires c =
    let date = c.in-Some.date in
    let last : IsCivilDate (pos 1_999) 12 31 = search rules in
    let below = day-before_year date (pos 2_100) (omega (arith, signed_arith, c.in-Some.ensures.value)) in
    let above = day-after_year date (pos 1_999) last (omega (arith, signed_arith, c.in-Some.ensures.value)) in
    true≢false (sym (c.in-None.ensures.valid.1 (record {
      from = omega (arith, signed_arith, below, above, known-days, c.to_unix_epoch_day.ensures.value, c.minutes_at.ensures);
      to = omega (arith, signed_arith, below, above, known-days, c.to_unix_epoch_day.ensures.value, c.minutes_at.ensures);
    })))

pub returns : goal.returns
returns c = search rules
