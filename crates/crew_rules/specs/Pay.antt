-- Pay, in points; 14 points are a paid minute, and nothing is rounded. The form of American
-- contracts as Barnhart et al. 2003, "Airline crew scheduling", treat it.
use Rattle.std.specs.Prelude.{ℕ, ℤ, pos, ◌*ℤ◌, ◌≤ℤ◌}
use Rattle.std.specs.Int.{int_max}
use Rattle.crew_rules.specs.declared.settings.Settings.{Settings}

-- a time between two of the instants that there are, in minutes
pub record IsMinutes (minutes : ℤ) : Type 0 where
  pub from : pos 0 ≤ℤ minutes
  pub to : minutes ≤ℤ pos 100_000_000

-- the pay of a duty: 14 points for each flight minute, the rig for each minute from report to
-- release, or the least, whichever is greatest
abbrev pub duty_pay : Settings → ℤ → ℤ → ℤ
duty_pay s elapsed flight = int_max (int_max (pos 14 *ℤ flight) (pos s.duty_rig *ℤ elapsed))
    (pos s.duty_min)

-- the pay of a pairing: the sum of its duties' pays, the rig for each minute away, or the guarantee
-- for each duty, whichever is greatest
abbrev pub pairing_pay : Settings → ℤ → ℤ → ℕ → ℤ
pairing_pay s duty_pays away duties = int_max (int_max duty_pays (pos s.trip_rig *ℤ away))
    (pos s.guarantee *ℤ pos duties)
