-- Instants. An instant is a count of minutes since 1970-01-01T00:00 UTC.
use Rattle.std.specs.Prelude.{ℤ, pos, ◌≤ℤ◌}

-- from 1999-12-31T00:00 to 2100-01-01T23:59: the years 2000 to 2099, and a day on either side
pub record IsInstant (minute : ℤ) : Type 0 where
  pub from : pos 15_776_640 ≤ℤ minute
  pub to : minute ≤ℤ pos 68_375_519

-- from 2000-01-01T00:00 to 2099-12-31T23:59: the instants that a text of a time may name
pub record IsInYears (minute : ℤ) : Type 0 where
  pub from : pos 15_778_080 ≤ℤ minute
  pub to : minute ≤ℤ pos 68_374_079
