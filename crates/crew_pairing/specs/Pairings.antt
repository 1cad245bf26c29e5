-- Partial pairings of a base, and pairings, over lists of legal duties: 14 CFR 117.25(e) (10
-- consecutive hours of rest before a flight duty period, measured from release), 117.25(b) (30
-- consecutive hours free from duty, on the premise stated at the caps), 117.23(b)(1) and (c)
-- (limits on flight time and flight duty periods within consecutive hours). A list of duties stands
-- here as its first duty and the list of the others.
use Rattle.std.specs.Prelude.{◌≡◌, ℕ, Bool, true, ◌&&◌, int_le, ℤ, pos, ◌-ℤ◌, List, [], ◌∷◌, length}
use Rattle.std.specs.Ordering.{eq_by_cmp}
use Rattle.crew_flights.specs.Codes.{code_cmp}
use Rattle.crew_rules.specs.Settings.{fdp_most}
use Rattle.crew_rules.specs.declared.settings.Settings.{Settings}
use Rattle.crew_pairing.specs.Flights.{Flights}
use Rattle.crew_pairing.specs.Legality.{IsLegal, duty_of, total}
use Rattle.crew_resource.specs.Members.{Each}
use Rattle.crew_pairing.specs.declared.leg.TimedLeg.{TimedLeg}
use Rattle.crew_pairing.specs.declared.duty.Duty.{Duty}

-- the duty of a legal list of legs over these flights
abbrev pub IsDuty : Settings → Flights → Duty → Type 0
IsDuty s flights d = (first : TimedLeg) × (others : List TimedLeg)
    × IsLegal s flights first others × (d ≡ duty_of s first others)

-- the last of a first duty and others
abbrev pub last_duty : Duty → List Duty → Duty
last_duty first [] = first
last_duty first (next ∷ others) = last_duty next others

-- rest: from release to the next report (117.25(e))
abbrev pub rest : Duty → Duty → ℤ
rest before next = next.report -ℤ before.release

-- the next duty departs where the one before arrived, after a rest of 10 hours or more, and at most
-- `max_rest`
abbrev pub may_stand_after : Settings → Duty → Duty → Bool
may_stand_after s before next =
    eq_by_cmp code_cmp before.to next.from
    && (int_le (pos 600) (rest before next) && int_le (rest before next) (pos s.max_rest))

-- of each two neighbours the second may stand just after the first
abbrev pub AllRested : Settings → Duty → List Duty → Type 0
AllRested s first [] = Unit {0}
AllRested s first (next ∷ others) = (may_stand_after s first next ≡ true) × AllRested s next others

-- minutes away from base: from the first report to the last release
abbrev pub minutes_away : List Duty → ℤ
minutes_away [] = pos 0
minutes_away (first ∷ others) = (last_duty first others).release -ℤ first.report

-- the caps on totals. Where a pairing spans at most 138 hours, one window of 168 consecutive hours
-- covers it, and one of 672. For a crew that has done no other work in these windows, 117.23(c)
-- caps its flight duty minutes, by the lesser of both caps, and 117.23(b)(1) its flight minutes.
-- 117.25(b) wants 30 consecutive hours free from all duty within the 168 hours before each report.
-- It holds for a crew that comes to the pairing off 30 such hours which end at its first report:
-- they lie within the 168 hours before a report that is at most 138 hours later. That premise is the
-- planner's, and no clause tests it. A longer pairing has to keep the cap in each of its windows, and
-- free hours before each report, which totals don't tell
abbrev pub is_within_caps : Settings → List Duty → Bool
is_within_caps s duties =
    int_le (total (λ d. d.fdp) duties) (pos (fdp_most s))
    && (int_le (total (λ d. d.fly) duties) (pos s.fly_cap)
    && (int_le (pos (length duties)) (pos s.max_duties)
    && int_le (minutes_away duties) (pos s.away_cap)))

-- a partial pairing of a base over these flights
pub record IsPartial (s : Settings) (flights : Flights) (base : List ℕ) (first : Duty)
    (others : List Duty) : Type 0 where
  -- each is a legal duty
  pub legal : Each (IsDuty s flights) (first ∷ others)
  -- the first leaves the base
  pub leaves : first.from ≡ base
  pub rested : AllRested s first others
  pub capped : is_within_caps s (first ∷ others) ≡ true

-- a partial is a pairing where its last arrival is its base; passing through the base on the way is
-- allowed
abbrev pub is_pairing : List ℕ → Duty → List Duty → Bool
is_pairing base first others = eq_by_cmp code_cmp (last_duty first others).to base
