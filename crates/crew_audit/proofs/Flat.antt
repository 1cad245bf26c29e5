-- Lists of lists, joined.
use Rattle.std.proofs.Common.{◌≡◌, ◌<◌, ◌+◌, ℕ, List, [], ◌∷◌, ◌++◌, Some, Bool, true, false, cond, length, refl, sym, ap, ◌∙◌, take, get_or, filter, inl, inr, if◌then◌else◌}
use Rattle.std.specs.Prelude.{slice_get}
use Rattle.std.specs.List.{flat_map}
use Rattle.std.proofs.lemmas.List.{flat_map_more, take_more}
use Rattle.std.proofs.lemmas.Grind.{flat_map-append}
use Rattle.std.proofs.lemmas.Option.{get_or_from_slice_get, slice_get-get_or}
use Rattle.crew_resource.specs.Members.{Member}
use Rattle.crew_pairing.proofs.Tree.{slice_get-Member, slice_get-within}

pub flat-flat : {X Y Z : Type 0} (f : Y → List Z) (g : X → List Y) (xs : List X) → flat_map f (flat_map g xs) ≡ flat_map (λ x. flat_map f (g x)) xs
flat-flat f g [] = refl
flat-flat f g (x ∷ xs) = flat_map-append f (g x) (flat_map g xs) ∙ ap (λ t. flat_map f (g x) ++ t) (flat-flat f g xs)

filtered : {X Y : Type 0} (f : X → List Y) (x : X) (ys : List X) (zs : List Y) (b : Bool) → flat_map f ys ≡ zs → flat_map f (cond b (x ∷ ys) ys) ≡ (if b then f x else []) ++ zs
filtered f x ys zs true e = ap (λ t. f x ++ t) e
filtered f x ys zs false e = e

pub flat-filter : {X Y : Type 0} (f : X → List Y) (p : X → Bool) (xs : List X) → flat_map f (filter p xs) ≡ flat_map (λ x. if p x then f x else []) xs
flat-filter f p [] = refl
flat-filter f p (x ∷ xs) = filtered f x (filter p xs) (flat_map (λ x. if p x then f x else []) xs) (p x) (flat-filter f p xs)

pub flat-none : {X Y : Type 0} (f : X → List Y) (xs : List X) → ((x : X) → Member xs x → f x ≡ []) → flat_map f xs ≡ []
flat-none f [] h = refl
flat-none f (x ∷ xs) h = rw (h x (inl refl)) (flat-none f xs (λ y m. h y (inr m)))

pub flat-same : {X Y : Type 0} (f g : X → List Y) (xs : List X) → ((x : X) → f x ≡ g x) → flat_map f xs ≡ flat_map g xs
flat-same f g [] h = refl
flat-same f g (x ∷ xs) h = rw (h x) (ap (λ t. g x ++ t) (flat-same f g xs h))

-- a loop over a list: one element more
pub more-at : {X Y : Type 0} (F : X → List Y) (xs : List X) (i : ℕ) (x : X) (start before now : List Y) → slice_get xs i ≡ Some x → before ≡ start ++ flat_map F (take i xs) → now ≡ before ++ F x
    → now ≡ start ++ flat_map F (take (i + 1) xs)
more-at {X} F xs i x start before now at b e =
    let within = slice_get-within xs i x at in
    let item : get_or xs i x ≡ x = get_or_from_slice_get xs i x x at in
    let grown : take (i + 1) xs ≡ take i xs ++ x ∷ [] = take_more xs i x within ∙ ap (λ (y : X). take i xs ++ y ∷ []) item in
    e ∙ rw b (flat_map_more F start (take i xs) x) ∙ ap (λ (t : List X). start ++ flat_map F t) (sym grown)

-- what a loop reads
pub item-at : {X : Type 0} (xs : List X) (i : ℕ) (x : X) → i < length xs → x ≡ get_or xs i x → slice_get xs i ≡ Some x
item-at xs i x h e = slice_get-get_or xs i x h ∙ ap Some (sym e)

pub item-known : {X : Type 0} (xs : List X) (i : ℕ) (x : X) → i < length xs → x ≡ get_or xs i x → Member xs x
item-known xs i x h e = slice_get-Member xs i x (item-at xs i x h e)
