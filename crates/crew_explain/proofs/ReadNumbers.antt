-- The numbers that a duty is made of, as the code reads them.
use Rattle.std.proofs.Common.{◌≡◌, ◌≤◌, ◌*◌, ℕ, suc, ℤ, pos, ◌+ℤ◌, ◌-ℤ◌, ◌≤ℤ◌, arith, of_z, to_z, w32, w64}
use Rattle.std.proofs.lemmas.Int.{ints}
use mir.Val.{SFits}
use Rattle.crew_rules.specs.Pay.{IsMinutes}

pub read-time : (time : ℤ) → pos 15_000_000 ≤ℤ time → time ≤ℤ pos 70_000_000 → to_z w32 (of_z w32 (to_z w64 (of_z w64 time))) ≡ time
read-time time h k = omega (arith, ints, h, k)

-- the minutes from a report to a release
pub record ReadElapsed (release report : ℤ) : Type 0 where
  pub value : to_z w64 (of_z w64 (to_z w64 (of_z w64 release) -ℤ to_z w64 (of_z w64 report))) ≡ release -ℤ report
  pub minutes : IsMinutes (to_z w64 (of_z w64 (to_z w64 (of_z w64 release) -ℤ to_z w64 (of_z w64 report))))

pub read-elapsed : (release report : ℤ) → pos 15_000_000 ≤ℤ report → report ≤ℤ release → release ≤ℤ pos 70_000_000 → ReadElapsed release report
read-elapsed release report h k m = record { value = omega (arith, ints, h, k, m); minutes = record { from = omega (arith, ints, h, k, m); to = omega (arith, ints, h, k, m) } }

pub no-later : (report dep arr release : ℤ) (lead debrief : ℕ) → report ≡ dep -ℤ pos lead → release ≡ arr +ℤ pos debrief → dep ≤ℤ arr → report ≤ℤ release
no-later report dep arr release lead debrief a b d = omega (arith, ints, a, b, d)

-- the minutes from a report to the last arrival
pub record ReadPeriod (fdp : ℤ) : Type 0 where
  pub fits : SFits w32 (to_z w64 (of_z w64 fdp))
  pub value_is : to_z w32 (of_z w32 (to_z w64 (of_z w64 fdp))) ≡ fdp

pub read-period : (fdp report dep arr release : ℤ) (lead debrief : ℕ) → fdp ≡ arr -ℤ (dep -ℤ pos lead) → report ≡ dep -ℤ pos lead → release ≡ arr +ℤ pos debrief → dep ≤ℤ arr → pos 15_000_000 ≤ℤ report
    → release ≤ℤ pos 70_000_000 → ReadPeriod fdp
read-period fdp report dep arr release lead debrief is a b d h k = record { fits = omega (arith, ints, is, a, b, d, h, k); value_is = omega (arith, ints, is, a, b, d, h, k) }

-- minutes flown on so many legs after the first
pub record ReadFlown (fly flown : ℤ) : Type 0 where
  pub value : to_z w64 (of_z w64 fly) ≡ flown
  pub value_is : to_z w32 (of_z w32 (to_z w64 (of_z w64 fly))) ≡ flown
  pub fits : SFits w32 (to_z w64 (of_z w64 fly))
  pub minutes : IsMinutes (to_z w64 (of_z w64 fly))

pub read-flown : (fly flown : ℤ) (n : ℕ) → fly ≡ flown → pos 0 ≤ℤ flown → flown ≤ℤ pos (1_440 * suc n) → n ≤ 7 → ReadFlown fly flown
read-flown fly flown n is h k few = record {
  value = omega (arith, ints, is, h, k, few);
  value_is = omega (arith, ints, is, h, k, few);
  fits = omega (arith, ints, is, h, k, few);
  minutes = record { from = omega (arith, ints, is, h, k, few); to = omega (arith, ints, is, h, k, few) };
}

-- a duty's pay, and its price
pub record ReadPay (paid pay : ℤ) : Type 0 where
  pub fits : SFits w32 (to_z w64 (of_z w64 paid))
  pub value_is : to_z w32 (of_z w32 (to_z w64 (of_z w64 paid))) ≡ pay

pub read-pay : (paid pay : ℤ) → paid ≡ pay → pos 0 ≤ℤ pay → pay ≤ℤ pos 1_400_000_000 → ReadPay paid pay
read-pay paid pay is h k = record { fits = omega (arith, ints, is, h, k); value_is = omega (arith, ints, is, h, k) }

pub read-price : (price : ℤ) → (pos 0 -ℤ pos 9_000_000_000) ≤ℤ price → price ≤ℤ pos 9_000_000_000 → to_z w64 (of_z w64 price) ≡ price
read-price price h k = omega (arith, ints, h, k)
