-- Points for minutes fit.
use Rattle.std.proofs.Common.{ℕ, ℤ, suc, pos, negsuc, ◌≤◌, ◌≤ℤ◌, ◌*ℤ◌, arith}
use Rattle.std.proofs.Math.Nat.{mul-le-mul_left}
use Rattle.std.proofs.lemmas.Int.{ints}

-- so many points for each of at most so many minutes, forward or back
pub rate-between : (rate : ℕ) (z : ℤ) → rate ≤ 14 → negsuc 99_999_999 ≤ℤ z → z ≤ℤ pos 100_000_000
    → (negsuc 1_399_999_999 ≤ℤ (pos rate *ℤ z)) × ((pos rate *ℤ z) ≤ℤ pos 1_400_000_000)
rate-between rate (pos m) r h k =
    let l : m ≤ 100_000_000 = omega (arith, ints) in
    let p = mul-le-mul_left rate l in
    (omega (arith, ints, p), omega (arith, ints, p))
rate-between rate (negsuc m) r h k =
    let l : suc m ≤ 100_000_000 = omega (arith, ints) in
    let p = mul-le-mul_left rate l in
    (omega (arith, ints, p), omega (arith, ints, p))
