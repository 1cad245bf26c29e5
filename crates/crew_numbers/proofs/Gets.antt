-- What stands at a place of a list that is written to or made longer.
use Rattle.std.proofs.Common.{◌≡◌, ◌≢◌, ◌<◌, ◌≤◌, ◌+◌, ◌++◌, ◌⊎◌, ℕ, zero, suc, List, [], ◌∷◌, Option, Some, None, inl, inr, length, refl, ap, sym, ◌∙◌, arith, set}
use Rattle.std.specs.Prelude.{IsSome, slice_get}
use Rattle.std.specs.List.{AllZip}
use Rattle.slab.specs.Slab.{IsSlotClone}
use Rattle.std.proofs.lemmas.Option.{none-some, same_Some}

pub none-below : {X : Type 0} (i : ℕ) (x : X) → slice_get [] i ≡ Some x → ⊥
none-below zero x e = (cc)
none-below (suc i) x e = (cc)

pub get-written : {X : Type 0} (xs : List X) (i : ℕ) (y : X) → i < length xs → slice_get (set xs i y) i ≡ Some y
get-written [] i y h = absurd (omega (arith, h))
get-written (x ∷ xs) zero y h = refl
get-written (x ∷ xs) (suc i) y h = get-written xs i y (omega (arith, h))

pub get-elsewhere : {X : Type 0} (xs : List X) (i j : ℕ) (y : X) → j ≢ i → slice_get (set xs i y) j ≡ slice_get xs j
get-elsewhere [] i j y n = refl
get-elsewhere (x ∷ xs) zero zero y n = absurd (n refl)
get-elsewhere (x ∷ xs) zero (suc j) y n = refl
get-elsewhere (x ∷ xs) (suc i) zero y n = refl
get-elsewhere (x ∷ xs) (suc i) (suc j) y n = get-elsewhere xs i j y (λ e. n (ap suc e))

pub same-or-not : (i j : ℕ) → (i ≡ j) ⊎ (i ≢ j)
same-or-not zero zero = inl refl
same-or-not zero (suc j) = inr (λ e. omega (arith, e))
same-or-not (suc i) zero = inr (λ e. omega (arith, e))
same-or-not (suc i) (suc j) = elim (same-or-not i j) [ inl e ↦ inl (ap suc e) | inr n ↦ inr (λ e. n (omega (arith, e))) ]

-- what is read after a write is what was written, or was there before
pub written-cases : {X : Type 0} (xs : List X) (i j : ℕ) (y x : X) → i < length xs → slice_get (set xs i y) j ≡ Some x → ((j ≡ i) × (y ≡ x)) ⊎ ((j ≢ i) × (slice_get xs j ≡ Some x))
written-cases xs i j y x h e = elim (same-or-not j i) [
  | inl s ↦ inl (s, same_Some y x (sym (get-written xs i y h) ∙ (ap (slice_get (set xs i y)) (sym s) ∙ e)))
  | inr n ↦ inr (n, sym (get-elsewhere xs i j y n) ∙ e)
]

pub get-longer : {X : Type 0} (xs : List X) (y : X) (i : ℕ) (x : X) → slice_get xs i ≡ Some x → slice_get (xs ++ y ∷ []) i ≡ Some x
get-longer [] y i x e = absurd (none-below i x e)
get-longer (z ∷ xs) y zero x e = e
get-longer (z ∷ xs) y (suc i) x e = get-longer xs y i x e

pub get-last : {X : Type 0} (xs : List X) (y : X) (i : ℕ) → length xs ≡ i → slice_get (xs ++ y ∷ []) i ≡ Some y
get-last [] y zero e = refl
get-last [] y (suc i) e = absurd (omega (arith, e))
get-last (z ∷ xs) y zero e = absurd (omega (arith, e))
get-last (z ∷ xs) y (suc i) e = get-last xs y i (omega (arith, e))

-- what is read after a push is what was pushed, or was there before
pub pushed-cases : {X : Type 0} (xs : List X) (y : X) (i j : ℕ) (x : X) → length xs ≡ i → slice_get (xs ++ y ∷ []) j ≡ Some x → ((j ≡ i) × (y ≡ x)) ⊎ ((j < i) × (slice_get xs j ≡ Some x))
pushed-cases [] y zero zero x l e = inl (refl, same_Some y x e)
pushed-cases [] y zero (suc j) x l e = absurd (none-below j x e)
pushed-cases [] y (suc i) j x l e = absurd (omega (arith, l))
pushed-cases (z ∷ xs) y zero j x l e = absurd (omega (arith, l))
pushed-cases (z ∷ xs) y (suc i) zero x l e = inr (omega arith, e)
pushed-cases (z ∷ xs) y (suc i) (suc j) x l e = elim (pushed-cases xs y i j x (omega (arith, l)) e) [
  | inl p ↦ inl (ap suc p.0, p.1)
  | inr p ↦ inr (let h = p.0 in omega (arith, h), p.1)
]

pub within : {X : Type 0} (xs : List X) (i : ℕ) (x : X) → slice_get xs i ≡ Some x → i < length xs
within [] i x e = absurd (none-below i x e)
within (y ∷ xs) zero x e = omega arith
within (y ∷ xs) (suc i) x e = let h = within xs i x e in omega (arith, h)

pub one-value : {X : Type 0} (o : Option X) (a b : X) → o ≡ Some a → o ≡ Some b → a ≡ b
one-value o a b p q = same_Some a b (sym p ∙ q)

-- what is there has a value
pub there : {X : Type 0} (xs : List X) (i : ℕ) → i < length xs → (x : X) × (slice_get xs i ≡ Some x)
there [] i h = absurd (omega (arith, h))
there (y ∷ xs) zero h = (y, refl)
there (y ∷ xs) (suc i) h = there xs i (omega (arith, h))

pub earlier-or-same : (j i : ℕ) → j < i + 1 → (j < i) ⊎ (j ≡ i)
earlier-or-same j i h = elim (same-or-not j i) [ inl e ↦ inr e | inr n ↦ inl (omega (arith, h, n)) ]

-- a place with nothing in it has nothing in it
pub empty-there : {X : Type 0} (o : Option (Option X)) (x : X) → o ≡ Some None → o ≡ Some (Some x) → ⊥
empty-there o x p q = let e : Some None ≡ Some (Some x) = sym p ∙ q in (cc)

pub one-item : {X : Type 0} (o : Option (Option X)) (x y : X) → o ≡ Some (Some x) → o ≡ Some (Some y) → x ≡ y
one-item o x y p q = same_Some x y (same_Some (Some x) (Some y) (sym p ∙ q))

pub earlier-or-later : (j i : ℕ) → (j < i) ⊎ (i ≤ j)
earlier-or-later j zero = inr (omega arith)
earlier-or-later zero (suc i) = inl (omega arith)
earlier-or-later (suc j) (suc i) = elim (earlier-or-later j i) [ inl h ↦ inl (omega (arith, h)) | inr h ↦ inr (omega (arith, h)) ]

pub some-there : {X : Type 0} (o : Option X) (x : X) → o ≡ Some x → IsSome o
some-there None x e = absurd (none-some x e)
some-there (Some y) x e = refl

pub none-there : {X : Type 0} (o : Option X) → ((x : X) → o ≡ Some x → ⊥) → o ≡ None
none-there None h = refl
none-there (Some x) h = absurd (h x refl)

-- a key that has nothing is none
pub no-key : {X : Type 0} (o : Option X) → o ≡ None → IsSome o → ⊥
no-key None e h = let z : ⊥ = (cc) in z
no-key (Some x) e h = let z : ⊥ = (cc) in z

-- a copy of slots has the same items
pub same-slots : (slots copies : List (Option (Unit {0}))) → AllZip (IsSlotClone (λ (x y : Unit {0}). y ≡ x)) slots copies → copies ≡ slots
same-slots [] [] all = refl
same-slots [] (c ∷ copies) all = absurd all
same-slots (s ∷ slots) [] all = absurd all
same-slots (None ∷ slots) (c ∷ copies) all = rw (all.0, same-slots slots copies all.1) refl
same-slots (Some x ∷ slots) (None ∷ copies) all = absurd all.0
same-slots (Some x ∷ slots) (Some y ∷ copies) all = rw (all.0, same-slots slots copies all.1) refl
