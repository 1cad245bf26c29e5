-- Places in lists.
use Rattle.std.proofs.Common.{◌≡◌, ◌∙◌, ◌<◌, ◌+◌, ◌≢◌, ℕ, zero, suc, List, [], ◌∷◌, ◌++◌, None, Some, drop, length, map, refl, ap, arith, length-append}
use Rattle.std.specs.Prelude.{slice_get}

-- the last of a list
pub at-end : {X : Type 0} (xs : List X) (x : X) → slice_get (xs ++ x ∷ []) (length xs) ≡ Some x
at-end [] x = refl
at-end (y ∷ xs) x = at-end xs x

-- what stands elsewhere
pub before-end : {X : Type 0} (xs : List X) (x : X) (k : ℕ) → k ≢ length xs → slice_get (xs ++ x ∷ []) k ≡ slice_get xs k
before-end [] x zero h = absurd (h refl)
before-end [] x (suc k) h = refl
before-end (y ∷ xs) x zero h = refl
before-end (y ∷ xs) x (suc k) h = before-end xs x k (λ e. h (ap suc e))

pub one-more : {X : Type 0} (xs ys : List X) (x : X) → ys ≡ xs ++ x ∷ [] → length ys ≡ length xs + 1
one-more xs ys x e = ap length e ∙ length-append xs (x ∷ [])

-- lists that are as long and have the same at each place
pub same-places : {X : Type 0} (xs ys : List X) → length xs ≡ length ys → ((k : ℕ) → k < length xs → slice_get xs k ≡ slice_get ys k) → xs ≡ ys
same-places [] [] l h = refl
same-places [] (y ∷ ys) l h = absurd (omega (arith, l))
same-places (x ∷ xs) [] l h = absurd (omega (arith, l))
same-places (x ∷ xs) (y ∷ ys) l h =
    let first : x ≡ y = let q = h 0 (omega arith) in (cc) in
    ap (λ z. z ∷ xs) first ∙ ap (λ z. y ∷ z) (same-places xs ys (omega (arith, l)) (λ k m. h (suc k) (omega (arith, m))))

-- what is mapped
pub get-mapped : {X Y : Type 0} (f : X → Y) (xs : List X) (k : ℕ) (x : X) → slice_get xs k ≡ Some x → slice_get (map f xs) k ≡ Some (f x)
get-mapped f [] k x e = absurd (let q : ⊥ = (cc) in q)
get-mapped f (z ∷ xs) zero x e = let i : z ≡ x = (cc) in ap (λ y. Some (f y)) i
get-mapped f (z ∷ xs) (suc k) x e = get-mapped f xs k x e

pub none-mapped : {X Y : Type 0} (f : X → Y) (xs : List X) (k : ℕ) → slice_get xs k ≡ None → slice_get (map f xs) k ≡ None
none-mapped f [] k e = refl
none-mapped f (z ∷ xs) zero e = absurd (let q : ⊥ = (cc) in q)
none-mapped f (z ∷ xs) (suc k) e = none-mapped f xs k e

pub drop-at : {X : Type 0} (xs : List X) (k : ℕ) (x : X) → slice_get xs k ≡ Some x → drop k xs ≡ x ∷ drop (k + 1) xs
drop-at [] k x e = absurd (let q : ⊥ = (cc) in q)
drop-at (y ∷ xs) zero x e = let i : y ≡ x = (cc) in ap (λ z. z ∷ xs) i
drop-at (y ∷ xs) (suc k) x e =
    let on : suc k + 1 ≡ suc (k + 1) = omega arith in
    rw on (drop-at xs k x e)

pub drop-past : {X : Type 0} (xs : List X) (k : ℕ) → slice_get xs k ≡ None → drop k xs ≡ []
drop-past [] zero e = refl
drop-past [] (suc k) e = refl
drop-past (y ∷ xs) zero e = absurd (let q : ⊥ = (cc) in q)
drop-past (y ∷ xs) (suc k) e = drop-past xs k e
