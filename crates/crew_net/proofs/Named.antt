-- Lists that are gone through from their first item on.
use Rattle.std.proofs.Common.{◌≡◌, ◌<◌, ◌+◌, ℕ, zero, suc, List, [], ◌∷◌, ◌++◌, length, refl, ap, arith, take, get_or, map}
use Rattle.crew_resource.specs.Members.{Each}

pub each-more : {X : Type 0} (P : X → Type 0) (xs : List X) (k : ℕ) (d : X) → k < length xs → Each P (take k xs) → P (get_or xs k d) → Each P (take (k + 1) xs)
each-more P [] k d h a n = absurd (omega (arith, h))
each-more P (x ∷ xs) zero d h a n = (n, tt)
each-more P (x ∷ xs) (suc k) d h a n =
    let on : suc k + 1 ≡ suc (k + 1) = omega arith in
    rw on (a.0, each-more P xs k d (omega (arith, h)) a.1 n)

pub map-more : {X Y : Type 0} (f : X → Y) (xs : List X) (k : ℕ) (d : X) → k < length xs → map f (take (k + 1) xs) ≡ map f (take k xs) ++ f (get_or xs k d) ∷ []
map-more f [] k d h = absurd (omega (arith, h))
map-more f (x ∷ xs) zero d h = refl
map-more {X} {Y} f (x ∷ xs) (suc k) d h =
    let on : suc k + 1 ≡ suc (k + 1) = omega arith in
    rw on (ap (λ (l : List Y). f x ∷ l) (map-more f xs k d (omega (arith, h))))
