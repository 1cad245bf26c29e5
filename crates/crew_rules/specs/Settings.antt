-- The settings of a session and their ranges.
use Rattle.std.specs.Prelude.{ℕ, ◌+◌, ◌≤◌, min, not, List, [], ◌∷◌, Option, Some, None, Result, Ok, Err, position}
use Rattle.crew_rules.specs.Range.{is_in_range}
use Rattle.crew_rules.specs.declared.settings.Settings.{Settings}
use Rattle.crew_rules.specs.declared.settings.BadSetting.{BadSetting}

-- each setting in the order of the numbers, with the least and the greatest value that it may have.
-- 14,400 minutes are 240 hours. 3,600 minutes are the 60 hours of flight duty in any 168 consecutive
-- hours of 117.23(c)(1), 11,400 the 190 hours in any 672 of 117.23(c)(2), 6,000 the 100 hours of
-- flight time of 117.23(b)(1)
abbrev pub ranges : Settings → List (ℕ × ℕ × ℕ)
ranges s =
    (s.lead, 0, 240)
    ∷ (s.debrief, 0, 240)
    ∷ (s.connect, 0, 240)
    ∷ (s.sit, s.connect, 1_440)
    ∷ (s.max_rest, 600, 8_280)
    ∷ (s.max_duties, 1, 12)
    ∷ (s.fdp_cap, 1, 3_600)
    ∷ (s.fly_cap, 1, 6_000)
    ∷ (s.away_cap, 1, 14_400)
    ∷ (s.duty_rig, 0, 14)
    ∷ (s.trip_rig, 0, 14)
    ∷ (s.duty_min, 0, 20_000)
    ∷ (s.guarantee, 0, 20_000)
    ∷ (s.deadheads, 0, 1)
    ∷ (s.fdp_total, 1, 11_400)
    ∷ []

-- what a check answers, where the first setting out of its range stands at this place, if any does
abbrev pub check_at : Option ℕ → Result (Unit {0}) BadSetting
check_at None = Ok tt
check_at (Some place) = Err (record { field = place + 1 })

-- the first setting that is out of its range
abbrev pub check_of : Settings → Result (Unit {0}) BadSetting
check_of s = check_at (position (λ r. not (is_in_range r)) (ranges s))

-- every setting is in its range
pub record IsChecked (s : Settings) : Type 0 where
  pub lead : s.lead ≤ 240
  pub debrief : s.debrief ≤ 240
  pub connect : s.connect ≤ 240
  pub sit : s.connect ≤ s.sit
  pub sit_most : s.sit ≤ 1_440
  pub max_rest : 600 ≤ s.max_rest
  pub max_rest_most : s.max_rest ≤ 8_280
  pub max_duties : 1 ≤ s.max_duties
  pub max_duties_most : s.max_duties ≤ 12
  pub fdp_cap : 1 ≤ s.fdp_cap
  pub fdp_cap_most : s.fdp_cap ≤ 3_600
  pub fly_cap : 1 ≤ s.fly_cap
  pub fly_cap_most : s.fly_cap ≤ 6_000
  pub away_cap : 1 ≤ s.away_cap
  pub away_cap_most : s.away_cap ≤ 14_400
  pub duty_rig : s.duty_rig ≤ 14
  pub trip_rig : s.trip_rig ≤ 14
  pub duty_min : s.duty_min ≤ 20_000
  pub guarantee : s.guarantee ≤ 20_000
  pub deadheads : s.deadheads ≤ 1
  pub fdp_total : 1 ≤ s.fdp_total
  pub fdp_total_most : s.fdp_total ≤ 11_400

-- settings under which the sums over a pairing's duties tell whether it is legal: with 30 hours free from
-- duty right before it all of it lies in 168 hours, so that no window of 168 hours (14 CFR 117.23(c)(1)) and
-- no free hours on its way (117.25(b)) ask for more
pub record SumsTellAll (s : Settings) : Type 0 where
  pub away : s.away_cap ≤ 8_280

-- the cap on the flight duty time of such a pairing, which is both all of its own and that of one window
abbrev pub fdp_most : Settings → ℕ
fdp_most s = min s.fdp_cap s.fdp_total

-- the defaults
abbrev pub standard : Settings
standard = record {
  lead = 60;
  debrief = 30;
  connect = 30;
  sit = 240;
  max_rest = 1_800;
  max_duties = 4;
  fdp_cap = 3_600;
  fly_cap = 6_000;
  away_cap = 8_280;
  duty_rig = 7;
  trip_rig = 4;
  duty_min = 2_520;
  guarantee = 4_200;
  deadheads = 0;
  fdp_total = 11_400;
}
