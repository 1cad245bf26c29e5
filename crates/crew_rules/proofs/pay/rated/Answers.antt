use Rattle.std.proofs.Common.{◌≡◌, ◌*ℤ◌, ◌≤◌, ℕ, ℤ, arith, negsuc, of_z, pos, subst, sym, to_z, w64}
use Rattle.std.specs.Prelude.{◌≤ℤ◌}
use Rattle.std.proofs.lemmas.Int.{ints}
use Rattle.crew_rules.proofs.Rates.{rate-between}
use Rattle.crew_rules.proofs.pay.rated.Goals as goal

pub overflow_mul-result : goal.overflow_mul-result
overflow_mul-result c =
    let p = rate-between c.args.rate c.args.minutes c.requires.rate c.requires.minutes.0 c.requires.minutes.1 in
    let f : to_z w64 (of_z w64 c.from.result) ≡ pos c.args.rate = omega (arith, ints, c.from.ensures) in
    let m : to_z w64 (of_z w64 c.args.minutes) ≡ c.args.minutes = omega (arith, ints) in
    rw (f, m) (omega (arith, ints, p))

-- the product fits 64 bits
fits : (rate : ℕ) (f z : ℤ) → f ≡ pos rate → rate ≤ 14 → negsuc 99_999_999 ≤ℤ z → z ≤ℤ pos 100_000_000
    → to_z w64 (of_z w64 (to_z w64 (of_z w64 f) *ℤ to_z w64 (of_z w64 z))) ≡ pos rate *ℤ z
fits rate f z e r h k =
    let p = rate-between rate z r h k in
    let a : to_z w64 (of_z w64 f) ≡ pos rate = omega (arith, ints, e, r) in
    let b : to_z w64 (of_z w64 z) ≡ z = omega (arith, ints, h, k) in
    rw (a, b) (omega (arith, ints, p))

pub returns-clause-value : goal.returns-clause-value
returns-clause-value c = fits c.args.rate c.from.result c.args.minutes c.from.ensures c.requires.rate c.requires.minutes.0 c.requires.minutes.1

pub returns-clause-bound : goal.returns-clause-bound
returns-clause-bound c =
    let same = fits c.args.rate c.from.result c.args.minutes c.from.ensures c.requires.rate c.requires.minutes.0 c.requires.minutes.1 in
    let p = rate-between c.args.rate c.args.minutes c.requires.rate c.requires.minutes.0 c.requires.minutes.1 in
    (subst (λ (x : ℤ). negsuc 1_399_999_999 ≤ℤ x) (sym same) p.0, subst (λ (x : ℤ). x ≤ℤ pos 1_400_000_000) (sym same) p.1)
