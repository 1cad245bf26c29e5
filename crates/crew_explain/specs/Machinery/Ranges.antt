-- Numbers of duties whose sums fit.
use Rattle.std.specs.Prelude.{pos, negsuc, ◌≤ℤ◌}
use Rattle.crew_pairing.specs.declared.duty.Duty.{Duty}

pub record IsInRange (d : Duty) : Type 0 where
  pub report : pos 15_000_000 ≤ℤ d.report
  pub report_most : d.report ≤ℤ pos 70_000_000
  pub release : pos 15_000_000 ≤ℤ d.release
  pub release_most : d.release ≤ℤ pos 70_000_000
  pub fdp : negsuc 99_999_999 ≤ℤ d.fdp
  pub fdp_most : d.fdp ≤ℤ pos 100_000_000
  pub fly : negsuc 999_999_999 ≤ℤ d.fly
  pub fly_most : d.fly ≤ℤ pos 1_000_000_000
  pub pay : pos 0 ≤ℤ d.pay
  pub pay_most : d.pay ≤ℤ pos 10_000_000_000
  pub price : negsuc 9_999_999_999 ≤ℤ d.price
  pub price_most : d.price ≤ℤ pos 10_000_000_000
