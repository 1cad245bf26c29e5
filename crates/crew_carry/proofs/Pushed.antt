-- Lists with one more at the end, and what stands at a place.
use Rattle.std.proofs.Common.{◌≡◌, ◌<◌, ◌⊎◌, ◌++◌, ◌∷◌, [], inl, inr, ℕ, zero, suc, List, Some, length, refl, ap, arith, sym, ◌∙◌}
use Rattle.std.specs.Prelude.{slice_get}
use Rattle.crew_pairing.specs.declared.duty.Duty.{Duty}
use Rattle.crew_pool.specs.Ranks.{key_at}

pub some-once : {X : Type 0} (a b : X) → Some a ≡ Some b → a ≡ b
some-once a b e = cc

pub some-is : {X : Type 0} (xs : List X) (k : ℕ) (a b : X) → slice_get xs k ≡ Some a → slice_get xs k ≡ Some b → a ≡ b
some-is xs k a b p q = some-once a b (sym p ∙ q)

pub some-none : {X : Type 0} (k : ℕ) (a : X) → slice_get [] k ≡ Some a → ⊥
some-none k a e = let q : ⊥ = (cc) in q

pub pushed-out : {X : Type 0} (xs : List X) (x : X) (p : ℕ) (y : X) → slice_get (xs ++ x ∷ []) p ≡ Some y → (slice_get xs p ≡ Some y) ⊎ ((p ≡ length xs) × (x ≡ y))
pushed-out [] x zero y e = inr (refl, some-once x y e)
pushed-out [] x (suc p) y e = absurd (some-none p y e)
pushed-out (z ∷ xs) x zero y e = inl e
pushed-out (z ∷ xs) x (suc p) y e =
    elim (pushed-out xs x p y e) [
      | inl h ↦ inl h
      | inr h ↦ inr (let n = h.0 in (omega (arith, n)), h.1)
    ]

pub pushed-before : {X : Type 0} (xs : List X) (x : X) (p : ℕ) (y : X) → slice_get xs p ≡ Some y → slice_get (xs ++ x ∷ []) p ≡ Some y
pushed-before [] x p y e = absurd (some-none p y e)
pushed-before (z ∷ xs) x zero y e = e
pushed-before (z ∷ xs) x (suc p) y e = pushed-before xs x p y e

pub pushed-last : {X : Type 0} (xs : List X) (x : X) (p : ℕ) → p ≡ length xs → slice_get (xs ++ x ∷ []) p ≡ Some x
pushed-last [] x zero e = refl
pushed-last [] x (suc p) e = absurd (omega (arith, e))
pushed-last (z ∷ xs) x zero e = absurd (omega (arith, e))
pushed-last (z ∷ xs) x (suc p) e = pushed-last xs x p (omega (arith, e))

-- what stands in front of another
pub there-before : {X : Type 0} (xs : List X) (n q : ℕ) (y : X) → n < q → slice_get xs q ≡ Some y → (z : X) × (slice_get xs n ≡ Some z)
there-before [] n q y h e = absurd (some-none q y e)
there-before (x ∷ xs) zero q y h e = (x, refl)
there-before (x ∷ xs) (suc n) zero y h e = absurd (omega (arith, h))
there-before (x ∷ xs) (suc n) (suc q) y h e = there-before xs n q y (omega (arith, h)) e

-- the key of the duty of a rank
pub key-of : (duties : List Duty) (r : ℕ) (d : Duty) → slice_get duties r ≡ Some d → key_at duties r ≡ d.key
key-of [] r d e = absurd (some-none r d e)
key-of (x ∷ xs) zero d e = ap (λ (z : Duty). z.key) (some-once x d e)
key-of (x ∷ xs) (suc r) d e = key-of xs r d e
