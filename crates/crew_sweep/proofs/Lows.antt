-- A floor, label by label.
use Rattle.std.proofs.Common.{◌≡◌, ◌<◌, ◌+◌, ℕ, ℤ, zero, suc, List, [], ◌∷◌, ◌++◌, take, length, get_or, ⊎_elim, refl, ap, subst, arith}
use Rattle.std.specs.Prelude.{◌≤ℤ◌}
use Rattle.std.proofs.lemmas.Int.{ints}
use Rattle.crew_pairing.specs.declared.vector.PairingVector.{PairingVector}
use Rattle.crew_pool.specs.declared.label_walk.LabelWalk.{LabelWalk}
use Rattle.crew_resource.specs.Members.{Member}
use Rattle.crew_resource.proofs.Members.{Member-append}
use Rattle.crew_sweep.specs.Machinery.Digests.{IsFloor}

abbrev Labels : Type 0
Labels = List (PairingVector × LabelWalk)

take-more : {A : Type 0} (xs : List A) (k : ℕ) (d : A) → k < length xs → take (k + 1) xs ≡ take k xs ++ get_or xs k d ∷ []
take-more [] k d h = absurd (omega (arith, h))
take-more (x ∷ xs) zero d h = refl
take-more {A} (x ∷ xs) (suc k) d h =
    let on : suc k + 1 ≡ suc (k + 1) = omega arith in
    rw on (ap (λ (ys : List A). x ∷ ys) (take-more xs k d (omega (arith, h))))

at-most : (a b c : ℤ) → a ≤ℤ b → b ≤ℤ c → a ≤ℤ c
at-most a b c h k = omega (arith, ints)

-- with one label more
pub floor-more : (xs : Labels) (k : ℕ) (d : PairingVector × LabelWalk) (floor next : ℤ) → k < length xs → IsFloor floor (take k xs) → next ≤ℤ floor → next ≤ℤ (get_or xs k d).0.duty_pay → IsFloor next (take (k + 1) xs)
floor-more xs k d floor next h low less own l m =
    let x = get_or xs k d in
    ⊎_elim {C = next ≤ℤ l.0.duty_pay}
    (λ n. at-most next floor l.0.duty_pay less (low l n))
    (λ n. ⊎_elim {C = next ≤ℤ l.0.duty_pay}
    (λ e. subst (λ (z : PairingVector × LabelWalk). next ≤ℤ z.0.duty_pay) e own)
    (λ n. absurd n) n)
    (Member-append (take k xs) (x ∷ []) l (subst (λ ls. Member ls l) (take-more xs k d h) m))
