-- Loops over lists, and lists of values that may be none.
use Rattle.std.proofs.Common.{◌≡◌, ◌<◌, ◌+◌, ℕ, map, List, [], ◌∷◌, ◌++◌, Option, Some, None, length, refl, sym, ap, ◌∙◌, take, get_or, inl, inr}
use Rattle.std.specs.Prelude.{slice_get}
use Rattle.std.specs.List.{flat_map}
use Rattle.std.specs.Option.{option_and_then}
use Rattle.std.proofs.lemmas.List.{flat_map_more, take_more}
use Rattle.std.proofs.lemmas.Option.{get_or_from_slice_get, slice_get-get_or, slice_get_within}
use Rattle.crew_resource.specs.Events.{labelled}
use Rattle.crew_resource.specs.Members.{Member}
use Rattle.crew_resource.proofs.Members.{Member-at}

-- one element more
pub flat-more : {X Y : Type 0} (f : X → List Y) (start : List Y) (xs : List X) (i : ℕ) (x : X) → slice_get xs i ≡ Some x
    → (start ++ flat_map f (take i xs)) ++ f x ≡ start ++ flat_map f (take (i + 1) xs)
flat-more {X} f start xs i x at =
    let within = slice_get_within xs i x at in
    let item : get_or xs i x ≡ x = get_or_from_slice_get xs i x x at in
    let grown : take (i + 1) xs ≡ take i xs ++ x ∷ [] = take_more xs i x within ∙ ap (λ (y : X). take i xs ++ y ∷ []) item in
    flat_map_more f start (take i xs) x ∙ ap (λ (t : List X). start ++ flat_map f t) (sym grown)

-- what a loop reads
pub item-at : {X : Type 0} (xs : List X) (i : ℕ) (x : X) → i < length xs → x ≡ get_or xs i x → slice_get xs i ≡ Some x
item-at xs i x h e = slice_get-get_or xs i x h ∙ ap Some (sym e)

pub item-known : {X : Type 0} (xs : List X) (i : ℕ) (x : X) → i < length xs → x ≡ get_or xs i x → Member xs x
item-known xs i x h e = Member-at xs i x (item-at xs i x h e)

pub labelled-out : {V W : Type 0} (o : Option V) (y : W) (v : V) (w : W) → Member (labelled o y) (v, w) → (o ≡ Some v) × (w ≡ y)
labelled-out None y v w m = absurd m
labelled-out (Some u) y v w (inl e) = (ap (λ p. Some p.0) e, sym (ap (λ p. p.1) e))
labelled-out (Some u) y v w (inr m) = absurd m

pub labelled-in : {V W : Type 0} (o : Option V) (y : W) (v : V) (w : W) → o ≡ Some v → w ≡ y → Member (labelled o y) (v, w)
labelled-in None y v w e f = absurd (let q : ⊥ = (cc) in q)
labelled-in (Some u) y v w e f =
    let same : u ≡ v = (cc) in
    inl (ap (λ z. (z, y)) same ∙ ap (λ z. (v, z)) (sym f))

pub then-some : {A B : Type 0} (f : A → Option B) (o : Option A) (z : B) → option_and_then f o ≡ Some z → (u : A) × (o ≡ Some u) × (f u ≡ Some z)
then-some f None z e = absurd (let q : ⊥ = (cc) in q)
then-some f (Some u) z e = (u, refl, e)

pub flat-mapped : {X Y Z : Type 0} (f : Y → List Z) (g : X → Y) (xs : List X) → flat_map f (map g xs) ≡ flat_map (λ x. f (g x)) xs
flat-mapped f g [] = refl
flat-mapped f g (x ∷ xs) = ap (λ t. f (g x) ++ t) (flat-mapped f g xs)

pub append-none : {X : Type 0} (xs : List X) → xs ++ [] ≡ xs
append-none [] = refl
append-none (x ∷ xs) = ap (λ t. x ∷ t) (append-none xs)

pub take-grown : {X : Type 0} (xs : List X) (i : ℕ) (x : X) → slice_get xs i ≡ Some x → take (i + 1) xs ≡ take i xs ++ x ∷ []
take-grown {X} xs i x at =
    let within = slice_get_within xs i x at in
    let item : get_or xs i x ≡ x = get_or_from_slice_get xs i x x at in
    take_more xs i x within ∙ ap (λ (y : X). take i xs ++ y ∷ []) item
