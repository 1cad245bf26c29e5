-- Lists: what stands at a place after another is written.
use Rattle.crew_resource.specs.Members.{Member}
use Rattle.std.proofs.Common.{◌≡◌, ℕ, zero, suc, ◌<◌, Bool, false, filter, List, [], ◌∷◌, ◌++◌, Some, None, length, slice_set, ◌⊎◌, inl, inr, refl, ap, ⊎_elim, arith}
use Rattle.std.specs.Prelude.{slice_get}
use Rattle.std.proofs.lemmas.Bool.{cases_lt}

pub same-or-not : (a b : ℕ) → (a ≡ b) ⊎ (a ≡ b → ⊥)
same-or-not a b = ⊎_elim (λ h. inr (λ e. omega (arith, h, e))) (λ h. ⊎_elim (λ k. inr (λ e. omega (arith, k, e))) (λ k. inl (omega (arith, h, k))) (cases_lt b a)) (cases_lt a b)

pub get-set-here : {X : Type 0} (xs : List X) (i : ℕ) (v : X) → i < length xs → slice_get (slice_set xs i v) i ≡ Some v
get-set-here [] i v h = absurd (omega (arith, h))
get-set-here (x ∷ xs) zero v h = refl
get-set-here (x ∷ xs) (suc i) v h = get-set-here xs i v (omega (arith, h))

pub get-set-other : {X : Type 0} (xs : List X) (i k : ℕ) (v : X) → (k ≡ i → ⊥) → slice_get (slice_set xs i v) k ≡ slice_get xs k
get-set-other [] i k v h = refl
get-set-other (x ∷ xs) zero zero v h = absurd (h refl)
get-set-other (x ∷ xs) zero (suc k) v h = refl
get-set-other (x ∷ xs) (suc i) zero v h = refl
get-set-other (x ∷ xs) (suc i) (suc k) v h = get-set-other xs i k v (λ e. h (ap suc e))

pub one-item : {X : Type 0} (x y : X) → Some x ≡ Some y → x ≡ y
one-item x y e = (cc)

pub none-some : {X : Type 0} (x : X) → None ≡ Some x → ⊥
none-some x e = (cc)

-- where nothing passes, the filter has nothing
pub all-stopped : {X : Type 0} (p : X → Bool) (xs : List X) → ((x : X) → Member xs x → p x ≡ false) → length (filter p xs) ≡ 0
all-stopped p [] h = refl
all-stopped p (y ∷ xs) h = rw (h y (inl refl)) (all-stopped p xs (λ x m. h x (inr m)))

-- one item more at the end
pub get-pushed : {X : Type 0} (xs : List X) (y : X) (k : ℕ) (x : X) → slice_get (xs ++ y ∷ []) k ≡ Some x → (slice_get xs k ≡ Some x) ⊎ ((k ≡ length xs) × (y ≡ x))
get-pushed [] y zero x e = inr (refl, one-item y x e)
get-pushed [] y (suc k) x e = absurd (none-some x e)
get-pushed (z ∷ xs) y zero x e = inl e
get-pushed {X} (z ∷ xs) y (suc k) x e = ⊎_elim {C = (slice_get xs k ≡ Some x) ⊎ ((suc k ≡ suc (length xs)) × (y ≡ x))} (λ s. inl s) (λ s. inr (ap suc s.0, s.1)) (get-pushed xs y k x e)
