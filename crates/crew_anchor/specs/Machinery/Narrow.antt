-- The parts of vectors that are kept in 32 bits, and the order in which vectors are listed.
use Rattle.std.specs.Prelude.{◌≡◌, ℤ, neg_ℤ, pos, negsuc, ◌≤ℤ◌}
use Rattle.std.specs.Cmp.{IsTotalOrder, int_cmp_total, on_total, then_total}
use Rattle.std.proofs.Common.{ap, arith}
use Rattle.std.proofs.lemmas.Int.{ints}
use Rattle.crew_pairing.specs.declared.vector.PairingVector.{PairingVector}
use Rattle.crew_vector.specs.Fronts.{vector_cmp}

-- minutes and duties are no less than 0, and fit 32 bits; so do the minutes away, with the other sign
pub record AreNarrow (v : PairingVector) : Type 0 where
  pub fdp : pos 0 ≤ℤ v.fdp
  pub fdp_most : v.fdp ≤ℤ pos 4_294_967_295
  pub fly : pos 0 ≤ℤ v.fly
  pub fly_most : v.fly ≤ℤ pos 4_294_967_295
  pub duties : pos 0 ≤ℤ v.duties
  pub duties_most : v.duties ≤ℤ pos 4_294_967_295
  pub away : negsuc 2_147_483_646 ≤ℤ v.away
  pub away_most : v.away ≤ℤ pos 2_147_483_648

-- the other sign twice is the same
pub other_sign : {A : Type 0} (z : ℤ) (f : ℤ → A) → f (neg_ℤ (neg_ℤ z)) ≡ f z
other_sign z f =
    let same : neg_ℤ (neg_ℤ z) ≡ z = omega (arith, ints) in
    ap f same

-- vectors are listed by their parts in order
pub vector_total : IsTotalOrder vector_cmp
vector_total =
    then_total (on_total (λ (v : PairingVector). v.duty_pay) int_cmp_total)
    (then_total (on_total (λ (v : PairingVector). v.trip_rig) int_cmp_total)
    (then_total (on_total (λ (v : PairingVector). v.guarantee) int_cmp_total)
    (then_total (on_total (λ (v : PairingVector). v.fdp) int_cmp_total)
    (then_total (on_total (λ (v : PairingVector). v.fly) int_cmp_total)
    (then_total (on_total (λ (v : PairingVector). v.duties) int_cmp_total)
    (on_total (λ (v : PairingVector). v.away) int_cmp_total))))))
