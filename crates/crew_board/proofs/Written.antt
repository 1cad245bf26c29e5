-- One cell is written, with its mark.
use Rattle.std.proofs.Common.{◌≡◌, ◌<◌, ◌∷◌, [], ℕ, zero, suc, List, Some, map, length, slice_set, refl, ap, arith}
use Rattle.std.specs.Prelude.{slice_get}
use Rattle.std.proofs.lemmas.List.{map-set}

pub get-here : {X : Type 0} (xs : List X) (i : ℕ) (v : X) → i < length xs → slice_get (slice_set xs i v) i ≡ Some v
get-here [] i v h = absurd (omega (arith, h))
get-here (x ∷ xs) zero v h = refl
get-here (x ∷ xs) (suc i) v h = get-here xs i v (omega (arith, h))

pub get-elsewhere : {X : Type 0} (xs : List X) (i j : ℕ) (v : X) → (i ≡ j → ⊥) → slice_get (slice_set xs i v) j ≡ slice_get xs j
get-elsewhere [] i j v h = refl
get-elsewhere (x ∷ xs) zero zero v h = absurd (h refl)
get-elsewhere (x ∷ xs) zero (suc j) v h = refl
get-elsewhere (x ∷ xs) (suc i) zero v h = refl
get-elsewhere (x ∷ xs) (suc i) (suc j) v h = get-elsewhere xs i j v (λ e. h (ap suc e))

pub map-set-here : {X Y : Type 0} (f : X → Y) (xs : List X) (i : ℕ) (v : X) → map f (slice_set xs i v) ≡ slice_set (map f xs) i (f v)
map-set-here f xs i v = map-set f xs i v
