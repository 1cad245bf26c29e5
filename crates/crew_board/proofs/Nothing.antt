-- Lists of which nothing is there.
use Rattle.std.proofs.Common.{◌≡◌, ◌<◌, ◌∙◌, ◌∷◌, ◌++◌, [], ℕ, zero, suc, List, Option, Some, None, length, map, get_or, refl, sym, ap, arith}
use Rattle.std.specs.Prelude.{slice_get}
use Rattle.std.specs.Option.{option_map}
use Rattle.std.proofs.lemmas.Option.{slice_get-get_or}
use Rattle.crew_board.specs.Machinery.Held.{AllNone}

pub none-push : {X : Type 0} (xs : List (Option X)) → AllNone xs → AllNone (xs ++ None ∷ [])
none-push [] h = tt
none-push (None ∷ xs) h = none-push xs h
none-push (Some x ∷ xs) h = absurd h

pub none-mapped : {X Y : Type 0} (f : X → Y) (xs : List (Option X)) → AllNone xs → (k : ℕ) → get_or (map (option_map f) xs) k None ≡ None
none-mapped f [] h k = refl
none-mapped f (None ∷ xs) h zero = refl
none-mapped f (None ∷ xs) h (suc k) = none-mapped f xs h k
none-mapped f (Some x ∷ xs) h k = absurd h

pub none-noted : (xs : List (Option ℕ)) → AllNone xs → (k p : ℕ) → slice_get xs k ≡ Some (Some p) → ⊥
none-noted [] h k p e = let z : ⊥ = (cc) in z
none-noted (None ∷ xs) h zero p e = let z : ⊥ = (cc) in z
none-noted (None ∷ xs) h (suc k) p e = none-noted xs h k p e
none-noted (Some x ∷ xs) h k p e = h

-- what is read at a place of a list of options
pub option-at : {X Y : Type 0} (f : X → Y) (xs : List (Option X)) (place : ℕ) (x : X) → slice_get xs place ≡ Some (Some x) → get_or (map (option_map f) xs) place None ≡ Some (f x)
option-at f [] place x e = absurd (let z : ⊥ = (cc) in z)
option-at f (y ∷ xs) zero x e =
    let here : y ≡ Some x = (cc) in
    ap (option_map f) here
option-at f (y ∷ xs) (suc place) x e = option-at f xs place x e

pub read-at : {X : Type 0} (xs : List X) (place : ℕ) (x y : X) → place < length xs → y ≡ get_or xs place y → y ≡ x → slice_get xs place ≡ Some x
read-at xs place x y low e same = slice_get-get_or xs place y low ∙ ap (λ z. Some z) (sym e ∙ same)

-- an option that is there stands in the list
pub some-within : {X Y : Type 0} (f : X → Y) (xs : List (Option X)) (place : ℕ) (y : Y) → get_or (map (option_map f) xs) place None ≡ Some y → place < length xs
some-within f [] place y e = absurd (let z : ⊥ = (cc) in z)
some-within f (x ∷ xs) zero y e = omega arith
some-within f (x ∷ xs) (suc place) y e = let k = some-within f xs place y e in omega (arith, k)
