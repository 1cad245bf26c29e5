-- Lists that grow by one, and lists that are written.
use Rattle.std.proofs.Common.{◌≡◌, ◌∙◌, ◌∷◌, ◌++◌, [], ℕ, zero, suc, List, Some, ap, drop, length, map, subst, take}
use Rattle.std.proofs.Math.Seq.{take-append_seam}
use Rattle.std.specs.Prelude.{slice_get}
use Rattle.crew_machine.proofs.Cells.{Some-same}

pub each-pushed : {X Y : Type 0} (f : X → Y) (P : ℕ → Y → Type 0) (xs : List X) (x : X) → ((k : ℕ) (y : Y) → slice_get (map f xs) k ≡ Some y → P k y) → P (length xs) (f x) → (k : ℕ) (y : Y)
    → slice_get (map f (xs ++ (x ∷ []))) k ≡ Some y → P k y
each-pushed f P [] x all here zero y e = subst (P 0) (Some-same (f x) y e) here
each-pushed f P [] x all here (suc k) y e = absurd (let z : ⊥ = (cc) in z)
each-pushed f P (w ∷ xs) x all here zero y e = all 0 y e
each-pushed f P (w ∷ xs) x all here (suc k) y e = each-pushed f (λ i. P (suc i)) xs x (λ i z h. all (suc i) z h) here k y e

-- what is written through a slice of a whole list stands in the list
pub written-back : {X : Type 0} (n : ℕ) (new old : List X) → n ≡ length new → take n (new ++ drop (length new) old) ≡ new
written-back n new old e = ap (λ k. take k (new ++ drop (length new) old)) e ∙ take-append_seam new (drop (length new) old)
