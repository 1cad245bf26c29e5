-- Membership by recursion on the list.
use Rattle.std.proofs.Common.{◌≡◌, ℕ, zero, suc, ◌<◌, Bool, true, false, cond, Some, get_or, length, map, List, [], ◌∷◌, ◌++◌, ◌⊎◌, inl, inr, refl, sym, ◌∙◌, ap, subst, ⊎_elim, arith}
use Rattle.std.specs.Prelude.{slice_get}
use Rattle.std.specs.List.{filter, flat_map, list_any}
use Rattle.std.proofs.lemmas.Bool.{cases_Bool, false≢true, or_parts}
use Rattle.crew_resource.specs.Members.{Member}

pub Member-append_left : {X : Type 0} (xs ys : List X) (x : X) → Member xs x → Member (xs ++ ys) x
Member-append_left [] ys x h = absurd h
Member-append_left (z ∷ xs) ys x (inl e) = inl e
Member-append_left (z ∷ xs) ys x (inr h) = inr (Member-append_left xs ys x h)

pub Member-append_right : {X : Type 0} (xs ys : List X) (x : X) → Member ys x → Member (xs ++ ys) x
Member-append_right [] ys x h = h
Member-append_right (z ∷ xs) ys x h = inr (Member-append_right xs ys x h)

pub Member-append : {X : Type 0} (xs ys : List X) (x : X) → Member (xs ++ ys) x → Member xs x ⊎ Member ys x
Member-append [] ys x h = inr h
Member-append (z ∷ xs) ys x (inl e) = inl (inl e)
Member-append (z ∷ xs) ys x (inr h) = ⊎_elim (λ l. inl (inr l)) inr (Member-append xs ys x h)

pub Member-filter_in : {X : Type 0} (p : X → Bool) (xs : List X) (x : X) → Member xs x → p x ≡ true → Member (filter p xs) x
Member-filter_in p [] x h t = absurd h
Member-filter_in p (z ∷ xs) x (inl e) t =
    rw (ap p e ∙ t) (inl e)
Member-filter_in p (z ∷ xs) x (inr h) t =
    let rest = Member-filter_in p xs x h t in
    elim (p z) as (λ b. Member (cond b (z ∷ filter p xs) (filter p xs)) x) [ true ↦ inr rest | false ↦ rest ]

pub Member-filter_out : {X : Type 0} (p : X → Bool) (xs : List X) (x : X) → Member (filter p xs) x → Member xs x × (p x ≡ true)
Member-filter_out p [] x h = absurd h
Member-filter_out {X} p (z ∷ xs) x h =
    ⊎_elim
    (λ t.
    let here : Member (z ∷ filter p xs) x = rw t at h in
    ⊎_elim {C = Member (z ∷ xs) x × (p x ≡ true)} (λ e. (inl e, sym (ap p e) ∙ t)) (λ r. let k = Member-filter_out p xs x r in (inr k.0, k.1)) here)
    (λ f.
    let past : Member (filter p xs) x = rw f at h in
    let k = Member-filter_out p xs x past in (inr k.0, k.1))
    (cases_Bool (p z))

pub Member-flat_map_in : {X Y : Type 0} (f : X → List Y) (xs : List X) (x : X) (y : Y) → Member xs x → Member (f x) y → Member (flat_map f xs) y
Member-flat_map_in f [] x y h k = absurd h
Member-flat_map_in f (z ∷ xs) x y (inl e) k = Member-append_left (f z) (flat_map f xs) y (subst (λ q. Member (f q) y) (sym e) k)
Member-flat_map_in f (z ∷ xs) x y (inr h) k = Member-append_right (f z) (flat_map f xs) y (Member-flat_map_in f xs x y h k)

pub Member-flat_map_out : {X Y : Type 0} (f : X → List Y) (xs : List X) (y : Y) → Member (flat_map f xs) y → (x : X) × Member xs x × Member (f x) y
Member-flat_map_out f [] y h = absurd h
Member-flat_map_out f (z ∷ xs) y h =
    ⊎_elim (λ l. (z, inl refl, l)) (λ r. let k = Member-flat_map_out f xs y r in (k.0, inr k.1, k.2)) (Member-append (f z) (flat_map f xs) y h)

-- what a test of the elements finds
pub list_any_true : {X : Type 0} (p : X → Bool) (xs : List X) → list_any p xs ≡ true → (x : X) × Member xs x × (p x ≡ true)
list_any_true p [] h = absurd (false≢true h)
list_any_true p (z ∷ xs) h =
    ⊎_elim (λ t. (z, inl refl, t))
    (λ f. let rest : list_any p xs ≡ true = rw f at h in let k = list_any_true p xs rest in (k.0, inr k.1, k.2))
    (cases_Bool (p z))

pub list_any_false : {X : Type 0} (p : X → Bool) (xs : List X) → list_any p xs ≡ false → (x : X) → Member xs x → p x ≡ false
list_any_false p [] h x m = absurd m
list_any_false p (z ∷ xs) h x (inl e) = sym (ap p e) ∙ (or_parts (p z) (list_any p xs) h).0
list_any_false p (z ∷ xs) h x (inr m) = list_any_false p xs (or_parts (p z) (list_any p xs) h).1 x m

pub Member-get : {X : Type 0} (xs : List X) (k : ℕ) (d : X) → k < length xs → Member xs (get_or xs k d)
Member-get [] k d h = absurd (omega arith)
Member-get (x ∷ xs) zero d h = inl refl
Member-get (x ∷ xs) (suc k) d h = inr (Member-get xs k d (omega arith))

pub Member-map_in : {X Y : Type 0} (f : X → Y) (xs : List X) (x : X) → Member xs x → Member (map f xs) (f x)
Member-map_in f [] x m = absurd m
Member-map_in f (z ∷ xs) x (inl e) = inl (ap f e)
Member-map_in f (z ∷ xs) x (inr m) = inr (Member-map_in f xs x m)

pub Member-map_out : {X Y : Type 0} (f : X → Y) (xs : List X) (y : Y) → Member (map f xs) y → (x : X) × Member xs x × (f x ≡ y)
Member-map_out f [] y m = absurd m
Member-map_out f (z ∷ xs) y (inl e) = (z, inl refl, e)
Member-map_out f (z ∷ xs) y (inr m) = let k = Member-map_out f xs y m in (k.0, inr k.1, k.2)

pub Member-at : {X : Type 0} (xs : List X) (k : ℕ) (x : X) → slice_get xs k ≡ Some x → Member xs x
Member-at [] k x e = absurd (let q : ⊥ = (cc) in q)
Member-at (y ∷ ys) zero x e = inl (let q : y ≡ x = (cc) in q)
Member-at (y ∷ ys) (suc k) x e = inr (Member-at ys k x e)

pub Member-get_or : {X : Type 0} (xs : List X) (k : ℕ) (x : X) → k < length xs → get_or xs k x ≡ x → Member xs x
Member-get_or [] k x h e = absurd (omega arith)
Member-get_or (y ∷ ys) zero x h e = inl e
Member-get_or (y ∷ ys) (suc k) x h e = inr (Member-get_or ys k x (omega arith) e)
