-- Entries in order of vector rise by duty pay, and no pairing costs less than that: from one on whose duty
-- pay isn't wanted, none is.
use Rattle.std.proofs.Common.{◌≡◌, ◌∙◌, ◌++◌, List, [], ◌∷◌, ℕ, ℤ, ap, refl, map, arith}
use Rattle.std.specs.Prelude.{◌≤ℤ◌}
use Rattle.std.specs.Int.{int_max}
use Rattle.std.specs.Ordering.{int_cmp, ordering_then}
use Rattle.std.specs.declared.cmp.Ordering.{Ordering}
use Rattle.std.specs.declared.cmp.Ordering.TheVariants.{Less, Equal, Greater}
use Rattle.std.proofs.lemmas.Int.{ints}
use Rattle.crew_fronts.specs.crew_answers.Fronts.{RiseByVector, vector_cmp}
use Rattle.crew_fronts.specs.crew_answers.LongVectors.{LongVector}
use Rattle.crew_fronts.specs.crew_solve.Machinery.Keeps.{CheapestSoFar, keep, keep_all}
use Rattle.crew_pairing.specs.Legs.{Leg}
use Rattle.crew_pairing.specs.Vectors.{reduced_cost}
use Rattle.crew_plan.specs.Machinery.Homes.{pairing_of}
use Rattle.crew_resource.specs.Members.{Each}
use Rattle.crew_fronts.specs.crew_solve.crew_vector.declared.priced.PricedPairing.{PricedPairing}

abbrev Es : Type 0
Es = List (LongVector × List (List Leg))

itself : (a : ℤ) → a ≤ℤ a
itself a = omega (arith, ints)

less-pay : (a b : ℤ) → int_cmp a b ≡ Less → a ≤ℤ b
less-pay a b e = grind (arith, ints)

same-pay : (a b : ℤ) → int_cmp a b ≡ Equal → a ≤ℤ b
same-pay a b e = grind (arith, ints)

then-as-much : (a b c : ℤ) → a ≤ℤ b → b ≤ℤ c → a ≤ℤ c
then-as-much a b c h k = omega (arith, ints)

greatest : (a b c : ℤ) → a ≤ℤ int_max (int_max a b) c
greatest a b c = grind (arith, ints)

pay-by : (o rest more : Ordering) (a b : ℤ) → int_cmp a b ≡ o → ordering_then (ordering_then o rest) more ≡ Less → a ≤ℤ b
pay-by Less rest more a b e h = less-pay a b e
pay-by Equal rest more a b e h = same-pay a b e
pay-by Greater rest more a b e h = absurd (let z : ⊥ = (cc) in z)

pay-rises : (v w : LongVector) → vector_cmp v w ≡ Less → v.sums.duty_pay ≤ℤ w.sums.duty_pay
pay-rises v w h = pay-by (int_cmp v.sums.duty_pay w.sums.duty_pay) _ _ v.sums.duty_pay w.sums.duty_pay refl h

each-pay : (v : LongVector) (es : Es) → Each (λ later. vector_cmp v later.0 ≡ Less) es → Each (λ later. v.sums.duty_pay ≤ℤ later.0.sums.duty_pay) es
each-pay v [] h = tt
each-pay v (e ∷ es) h = (pay-rises v e.0 h.0, each-pay v es h.1)

pub from-here : (done : Es) (e : LongVector × List (List Leg)) (es : Es) → RiseByVector (done ++ e ∷ es) → Each (λ later. e.0.sums.duty_pay ≤ℤ later.0.sums.duty_pay) (e ∷ es)
from-here [] e es h = (itself e.0.sums.duty_pay, each-pay e.0 es h.0)
from-here (d ∷ done) e es h = from-here done e es h.1

pub unwanted : (k : CheapestSoFar) (rate : ℕ) (base : List ℕ) (pay : ℤ) (es : Es) → ((p : PricedPairing) → pay ≤ℤ p.cost → keep k p ≡ k) → Each (λ later. pay ≤ℤ later.0.sums.duty_pay) es
    → keep_all k (map (pairing_of rate base) es) ≡ k
unwanted k rate base pay [] none h = refl
unwanted k rate base pay (e ∷ es) none h =
    let v = e.0.sums in
    let one = none (pairing_of rate base e) (then-as-much pay v.duty_pay (reduced_cost v) h.0 (greatest v.duty_pay v.trip_rig v.guarantee)) in
    ap (λ (x : CheapestSoFar). keep_all x (map (pairing_of rate base) es)) one ∙ unwanted k rate base pay es none h.1
