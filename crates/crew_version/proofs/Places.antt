-- Beginnings, place by place.
use Rattle.std.proofs.Common.{◌≡◌, ℕ, ◌+◌, ◌<◌, List, [], ◌∷◌, ◌++◌, length, Some, None, zero, suc, refl, ap, sym, ◌∙◌, subst, arith, Bool, true, false, nat_eq, true≢false, ◌≢◌}
use Rattle.std.proofs.lemmas.Bool.Decides.{Decides-eqb}
use Rattle.std.specs.Prelude.{slice_get}
use mathlib.Core.List.{IsPrefix}

-- at the places of a beginning the whole has what it has
pub prefix-at : {A : Type 0} (xs ys : List A) (k : ℕ) → IsPrefix xs ys → k < length xs → slice_get xs k ≡ slice_get ys k
prefix-at xs ys k p h = longer-at xs p.0 k h ∙ ap (λ zs. slice_get zs k) p.1
  where
    longer-at : {A : Type 0} (xs rest : List A) (k : ℕ) → k < length xs → slice_get xs k ≡ slice_get (xs ++ rest) k
    longer-at [] rest k h = absurd (omega arith)
    longer-at (x ∷ xs) rest zero h = refl
    longer-at (x ∷ xs) rest (suc k) h = longer-at xs rest k (omega arith)

some-same : {A : Type 0} (x y : A) → Some x ≡ Some y → x ≡ y
some-same x y e = cc

-- what has the same at all places of a list begins with it
pub prefix-from : {A : Type 0} (xs ys : List A) → ((k : ℕ) → k < length xs → slice_get xs k ≡ slice_get ys k) → IsPrefix xs ys
prefix-from [] ys h = (ys, refl)
prefix-from (x ∷ xs) [] h = absurd (none (h 0 (omega arith)))
  where
    none : {A : Type 0} {x : A} → Some x ≡ None → ⊥
    none e = absurd cc
prefix-from (x ∷ xs) (y ∷ ys) h =
    let r = prefix-from xs ys (λ k l. h (suc k) (omega arith)) in
    let e : x ≡ y = some-same x y (h 0 (omega arith)) in
    (r.0, ap (λ z. z ∷ (xs ++ r.0)) e ∙ ap (λ zs. y ∷ zs) r.1)

split : (k n : ℕ) → k < n + 1 → k ≢ n → k < n
split k n l apart = omega arith

-- one place more
pub places-push : {A : Type 0} (xs ys : List A) (n : ℕ) → ((k : ℕ) → k < n → slice_get xs k ≡ slice_get ys k) → slice_get xs n ≡ slice_get ys n → (k : ℕ) → k < n + 1 → slice_get xs k ≡ slice_get ys k
places-push xs ys n h e k l = go (nat_eq k n) refl
  where
    go : (b : Bool) → nat_eq k n ≡ b → slice_get xs k ≡ slice_get ys k
    go true t = let same : k ≡ n = (Decides-eqb k n).0 t in subst (λ m. slice_get xs m ≡ slice_get ys m) (sym same) e
    go false f = h k (split k n l (λ same. absurd (true≢false (sym ((Decides-eqb k n).1 same) ∙ f))))
