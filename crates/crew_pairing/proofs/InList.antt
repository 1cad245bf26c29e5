-- What stands in joined, flattened and filtered lists.
use Rattle.std.proofs.Common.{◌≡◌, List, [], ◌∷◌, ◌++◌, Bool, true, false, cond, refl, ap, ◌⊎◌, inl, inr, filter}
use Rattle.std.specs.List.{flat_map}
use Rattle.crew_resource.specs.Members.{Each, Member}

pub Member-left : {X : Type 0} (xs ys : List X) (x : X) → Member xs x → Member (xs ++ ys) x
Member-left [] ys x m = absurd m
Member-left (y ∷ xs) ys x (inl e) = inl e
Member-left (y ∷ xs) ys x (inr m) = inr (Member-left xs ys x m)

pub Member-right : {X : Type 0} (xs ys : List X) (x : X) → Member ys x → Member (xs ++ ys) x
Member-right [] ys x m = m
Member-right (y ∷ xs) ys x m = inr (Member-right xs ys x m)

pub Member-either : {X : Type 0} (xs ys : List X) (x : X) → Member (xs ++ ys) x → Member xs x ⊎ Member ys x
Member-either [] ys x m = inr m
Member-either (y ∷ xs) ys x (inl e) = inl (inl e)
Member-either (y ∷ xs) ys x (inr m) = elim (Member-either xs ys x m) [ inl h ↦ inl (inr h) | inr h ↦ inr h ]

pub Member-flat_map : {X Y : Type 0} (f : X → List Y) (xs : List X) (x : X) (y : Y) → Member xs x → Member (f x) y → Member (flat_map f xs) y
Member-flat_map f [] x y m h = absurd m
Member-flat_map f (z ∷ xs) x y (inl e) h = Member-left (f z) (flat_map f xs) y (rw e h)
Member-flat_map f (z ∷ xs) x y (inr m) h = Member-right (f z) (flat_map f xs) y (Member-flat_map f xs x y m h)

pub flat_map-Member : {X Y : Type 0} (f : X → List Y) (xs : List X) (y : Y) → Member (flat_map f xs) y → (x : X) × Member xs x × Member (f x) y
flat_map-Member f [] y m = absurd m
flat_map-Member {X} {Y} f (z ∷ xs) y m = elim (Member-either (f z) (flat_map f xs) y m) [
  | inl h ↦ (z, inl refl, h)
  | inr h ↦ later (flat_map-Member f xs y h)
]
  where
    later : (x : X) × Member xs x × Member (f x) y → (x : X) × Member (z ∷ xs) x × Member (f x) y
    later (x, m, h) = (x, inr m, h)

kept : {X : Type 0} (p : X → Bool) (z : X) (xs : List X) (b : Bool) (x : X) → p z ≡ b → p x ≡ true → Member (z ∷ xs) x → (Member xs x → Member (filter p xs) x)
    → Member (cond b (z ∷ filter p xs) (filter p xs)) x
kept p z xs true x e t (inl i) more = inl i
kept p z xs true x e t (inr m) more = inr (more m)
kept p z xs false x e t (inl i) more = cc (ap p i)
kept p z xs false x e t (inr m) more = more m

pub Member-filter : {X : Type 0} (p : X → Bool) (xs : List X) (x : X) → p x ≡ true → Member xs x → Member (filter p xs) x
Member-filter p [] x t m = absurd m
Member-filter p (z ∷ xs) x t m = kept p z xs (p z) x refl t m (Member-filter p xs x t)

lost : {X : Type 0} (p : X → Bool) (z : X) (xs : List X) (b : Bool) (x : X) → p z ≡ b → (Member (filter p xs) x → (p x ≡ true) × Member xs x)
    → Member (cond b (z ∷ filter p xs) (filter p xs)) x → (p x ≡ true) × Member (z ∷ xs) x
lost p z xs true x e more (inl i) = (rw (← i) e, inl i)
lost p z xs true x e more (inr m) = let h = more m in (h.0, inr h.1)
lost p z xs false x e more m = let h = more m in (h.0, inr h.1)

pub filter-Member : {X : Type 0} (p : X → Bool) (xs : List X) (x : X) → Member (filter p xs) x → (p x ≡ true) × Member xs x
filter-Member p [] x m = absurd m
filter-Member p (z ∷ xs) x m = lost p z xs (p z) x refl (filter-Member p xs x) m

-- what holds of each of a list holds of each that a filter keeps
pub Each-filter : {X : Type 0} (P : X → Type 0) (p : X → Bool) (xs : List X) → Each P xs → Each P (filter p xs)
Each-filter P p [] h = tt
Each-filter {X} P p (x ∷ xs) h = by (p x) (Each-filter P p xs h.1)
  where
    by : (b : Bool) → Each P (filter p xs) → Each P (cond b (x ∷ filter p xs) (filter p xs))
    by true k = (h.0, k)
    by false k = k

pub Each-join : {X : Type 0} (P : X → Type 0) (xs ys : List X) → Each P xs → Each P ys → Each P (xs ++ ys)
Each-join P [] ys h k = k
Each-join P (x ∷ xs) ys h k = (h.0, Each-join P xs ys h.1 k)
