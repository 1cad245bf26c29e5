-- The numbers that a duty is made of, as the code reads them.
use Rattle.std.proofs.Common.{◌≡◌, ◌≤◌, ◌*◌, ℕ, suc, ℤ, pos, ◌+ℤ◌, ◌-ℤ◌, ◌≤ℤ◌, arith, of_z, to_z, w32, w64}
use Rattle.std.proofs.lemmas.Int.{ints}
use mir.Val.{SFits}
use Rattle.crew_rules.specs.Pay.{IsMinutes}

-- an arrival and what follows it, after a report
pub record ReadTimes (arrival debrief report : ℤ) : Type 0 where
  pub report_is : to_z w32 (of_z w32 (to_z w64 (of_z w64 report))) ≡ report
  pub release : to_z w64 (of_z w64 (to_z w64 (of_z w64 arrival) +ℤ to_z w64 (of_z w64 debrief))) ≡ arrival +ℤ debrief
  pub release_is : to_z w32 (of_z w32 (to_z w64 (of_z w64 (to_z w64 (of_z w64 arrival) +ℤ to_z w64 (of_z w64 debrief))))) ≡ arrival +ℤ debrief
  pub fdp_is : to_z w32 (of_z w32 (to_z w64 (of_z w64 (to_z w64 (of_z w64 arrival) -ℤ to_z w64 (of_z w64 report))))) ≡ arrival -ℤ report

pub read-times : (arrival report b : ℤ) (debrief : ℕ) → b ≡ pos debrief → debrief ≤ 240 → pos 15_776_640 ≤ℤ arrival → arrival ≤ℤ pos 68_375_519 → pos 15_000_000 ≤ℤ report → report ≤ℤ pos 70_000_000
    → ReadTimes arrival b report
read-times arrival report b debrief is few h k m n = record {
  report_is = omega (arith, ints, m, n);
  release = omega (arith, ints, is, few, h, k);
  release_is = omega (arith, ints, is, few, h, k);
  fdp_is = omega (arith, ints, h, k, m, n);
}

-- the minutes from a report to a release
pub record ReadElapsed (release report : ℤ) : Type 0 where
  pub value : to_z w64 (of_z w64 (release -ℤ to_z w64 (of_z w64 report))) ≡ release -ℤ report
  pub minutes : IsMinutes (to_z w64 (of_z w64 (release -ℤ to_z w64 (of_z w64 report))))

pub read-elapsed : (release report : ℤ) → pos 15_000_000 ≤ℤ report → report ≤ℤ release → release ≤ℤ pos 70_000_000 → ReadElapsed release report
read-elapsed release report h k m = record { value = omega (arith, ints, h, k, m); minutes = record { from = omega (arith, ints, h, k, m); to = omega (arith, ints, h, k, m) } }

pub no-later : (report dep arr arrival release : ℤ) (lead debrief : ℕ) → report ≡ dep -ℤ pos lead → arrival ≡ arr → dep ≤ℤ arr → release ≡ arrival +ℤ pos debrief → report ≤ℤ release
no-later report dep arr arrival release lead debrief a b d e = omega (arith, ints, a, b, d, e)

pub release-most : (arrival release : ℤ) (debrief : ℕ) → release ≡ arrival +ℤ pos debrief → arrival ≤ℤ pos 68_375_519 → debrief ≤ 240 → release ≤ℤ pos 70_000_000
release-most arrival release debrief e h k = omega (arith, ints, e, h, k)

-- minutes flown on so many legs after the first
pub record ReadFlown (fly flown : ℤ) : Type 0 where
  pub value : to_z w64 (of_z w64 fly) ≡ flown
  pub value_is : to_z w32 (of_z w32 (to_z w64 (of_z w64 fly))) ≡ flown
  pub fits : SFits w32 (to_z w64 (of_z w64 fly))
  pub minutes : IsMinutes (to_z w64 (of_z w64 fly))

pub read-flown : (fly flown : ℤ) (n : ℕ) → fly ≡ flown → pos 0 ≤ℤ flown → flown ≤ℤ pos (1_440 * suc n) → n ≤ 7 → ReadFlown fly flown
read-flown fly flown n is h k few = record {
  value = omega (arith, ints, is, h, k, few);
  value_is = omega (arith, ints, is, h, k, few);
  fits = omega (arith, ints, is, h, k, few);
  minutes = record { from = omega (arith, ints, is, h, k, few); to = omega (arith, ints, is, h, k, few) };
}

-- a duty's pay, and its price
pub record ReadPay (paid pay : ℤ) : Type 0 where
  pub fits : SFits w32 (to_z w64 (of_z w64 paid))
  pub value_is : to_z w32 (of_z w32 (to_z w64 (of_z w64 paid))) ≡ pay

pub read-pay : (paid pay : ℤ) → paid ≡ pay → pos 0 ≤ℤ pay → pay ≤ℤ pos 1_400_000_000 → ReadPay paid pay
read-pay paid pay is h k = record { fits = omega (arith, ints, is, h, k); value_is = omega (arith, ints, is, h, k) }

pub read-price : (price total : ℤ) (n : ℕ) → price ≡ total → (pos 0 -ℤ pos (1_000_000_000 * suc n)) ≤ℤ total → total ≤ℤ pos (1_000_000_000 * suc n) → n ≤ 7 → to_z w64 (of_z w64 price) ≡ total
read-price price total n is h k few = omega (arith, ints, is, h, k, few)
