-- What no beginning of a duty may pass, by its first leg: 14 CFR 117.11 with Table A and 117.13
-- with Table B.
use Rattle.std.specs.Prelude.{◌≡◌, ◌≤ℤ◌, ◌+ℤ◌, ℤ, List, max, pos}
use Rattle.crew_rules.specs.Tables.{limits_from, table_a, table_b}
use Rattle.crew_rules.specs.declared.settings.Settings.{Settings}
use Rattle.crew_pairing.specs.Legality.{report, segments}
use Rattle.crew_pairing.specs.declared.leg.TimedLeg.{TimedLeg}
use Rattle.crew_duty.specs.declared.limits.Limits.{Limits}

-- the limits of the duties that begin with a leg
pub record AreLimits (s : Settings) (first : TimedLeg) (limits : Limits) : Type 0 where
  pub report : limits.report ≡ report s first
  pub report_least : pos 15_000_000 ≤ℤ limits.report
  pub report_most : limits.report ≤ℤ pos 70_000_000
  pub deadheads : limits.deadheads ≡ s.deadheads
  pub fly : limits.fly ≡ table_a first.flight.report_clock
  pub periods : limits.periods ≡ limits_from first.flight.report_clock

-- what departs later comes in too late: Table B gives no more time with more flight segments
abbrev pub latest_departure : Settings → TimedLeg → List TimedLeg → ℤ
latest_departure s first legs = report s first +ℤ pos
    (table_b first.flight.report_clock (max (segments legs) 1))
