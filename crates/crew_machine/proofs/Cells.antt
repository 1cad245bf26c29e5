-- Lists of cells: what a write leaves.
use Rattle.std.proofs.Common.{◌≡◌, ℕ, zero, suc, List, [], ◌∷◌, map, slice_set, Some, ◌⊎◌, inl, inr, refl, sym, ◌∙◌, ap, ⊎_elim, arith}
use Rattle.std.specs.List.{slice_get}
use Rattle.crew_resource.specs.Members.{Member}

pub Some-same : {X : Type 0} (x y : X) → Some x ≡ Some y → x ≡ y
Some-same x y e = let q : x ≡ y = (cc) in q

pub Member-slice_set : {X : Type 0} (xs : List X) (i : ℕ) (v x : X) → Member (slice_set xs i v) x → (v ≡ x) ⊎ Member xs x
Member-slice_set [] i v x m = inr m
Member-slice_set (y ∷ ys) zero v x m = ⊎_elim inl (λ k. inr (inr k)) m
Member-slice_set (y ∷ ys) (suc i) v x m = ⊎_elim (λ e. inr (inl e)) (λ k. ⊎_elim inl (λ h. inr (inr h)) (Member-slice_set ys i v x k)) m

-- another element stays when one is written over
pub set-keeps : {X : Type 0} (xs : List X) (i : ℕ) (was v x : X) → slice_get xs i ≡ Some was → (was ≡ x → ⊥) → Member xs x → Member (slice_set xs i v) x
set-keeps [] i was v x at other m = m
set-keeps (y ∷ ys) zero was v x at other m = ⊎_elim (λ e. absurd (other (sym (Some-same y was at) ∙ e))) (λ k. inr k) m
set-keeps (y ∷ ys) (suc i) was v x at other m = ⊎_elim inl (λ k. inr (set-keeps ys i was v x at other k)) m

pub map-slice_set_same : {X Y : Type 0} (f : X → Y) (xs : List X) (i : ℕ) (x v : X) → slice_get xs i ≡ Some x → f v ≡ f x → map f (slice_set xs i v) ≡ map f xs
map-slice_set_same f [] i x v e s = refl
map-slice_set_same f (y ∷ ys) zero x v e s = ap (λ z. z ∷ map f ys) (s ∙ ap f (sym (Some-same y x e)))
map-slice_set_same f (y ∷ ys) (suc i) x v e s = ap (λ z. f y ∷ z) (map-slice_set_same f ys i x v e s)

pub map-map_lem : {X Y Z : Type 0} (f : X → Y) (g : Y → Z) (h : X → Z) → ((x : X) → g (f x) ≡ h x) → (xs : List X) → map h xs ≡ map g (map f xs)
map-map_lem f g h e [] = refl
map-map_lem f g h e (x ∷ xs) = ap (λ z. z ∷ map h xs) (sym (e x)) ∙ ap (λ z. g (f x) ∷ z) (map-map_lem f g h e xs)

-- two places are one, or not
pub same-place : (i j : ℕ) → (i ≡ j) ⊎ (i ≡ j → ⊥)
same-place zero zero = inl refl
same-place zero (suc j) = inr (λ e. omega (arith, e))
same-place (suc i) zero = inr (λ e. omega (arith, e))
same-place (suc i) (suc j) = ⊎_elim (λ e. inl (ap suc e)) (λ f. inr (λ e. f (omega (arith, e)))) (same-place i j)

-- at each place stands the same node, whatever is known of it
abbrev pub IsSameNode : {N C : Type 0} → List (N × C) → List (N × C) → ℕ → Type 0
IsSameNode {N} {C} xs ys k = (slice_get ys k ≡ slice_get xs k) ⊎ ((n : N) × (c : C) × (d : C) × (slice_get xs k ≡ Some (n, c)) × (slice_get ys k ≡ Some (n, d)))

same-node : {N C : Type 0} (x y : N × C) (xs ys : List (N × C)) → IsSameNode (x ∷ xs) (y ∷ ys) zero → y.0 ≡ x.0
same-node {N} {C} x y xs ys h =
    ⊎_elim {C = y.0 ≡ x.0}
    (λ e. ap (λ (z : N × C). z.0) (Some-same y x e))
    (λ r. ap (λ (z : N × C). z.0) (Some-same y (r.0, r.2) r.4) ∙ sym (ap (λ (z : N × C). z.0) (Some-same x (r.0, r.1) r.3)))
    h

pub same-nodes : {N C : Type 0} (xs ys : List (N × C)) → ((k : ℕ) → IsSameNode xs ys k) → map (λ c. c.0) ys ≡ map (λ c. c.0) xs
same-nodes [] [] h = refl
same-nodes [] (y ∷ ys) h = absurd (⊎_elim (λ e. let q : ⊥ = (cc) in q) (λ r. let e = r.3 in let q : ⊥ = (cc) in q) (h zero))
same-nodes (x ∷ xs) [] h = absurd (⊎_elim (λ e. let q : ⊥ = (cc) in q) (λ r. let e = r.4 in let q : ⊥ = (cc) in q) (h zero))
same-nodes (x ∷ xs) (y ∷ ys) h = ap (λ z. z ∷ map (λ c. c.0) ys) (same-node x y xs ys (h zero)) ∙ ap (λ z. x.0 ∷ z) (same-nodes xs ys (λ k. h (suc k)))
