-- A list from its first element on.
use Rattle.std.proofs.Common.{◌≡◌, ◌≤◌, ◌-◌, ◌++◌, ◌∷◌, [], List, length, take, drop, get_or, refl, ap, arith}
use Rattle.std.proofs.lemmas.List.{take_all}

-- the element at place 0 alone
pub first-alone : {X : Type 0} (xs : List X) (x : X) → 1 ≤ length xs → x ≡ get_or xs 0 x → x ∷ [] ≡ take 1 xs
first-alone [] x h e = absurd (omega arith)
first-alone (y ∷ ys) x h e = rw e refl

-- the first element, and all that are left
pub first-and-rest : {X : Type 0} (xs : List X) → 1 ≤ length xs → take 1 xs ++ take (length xs - 1) (drop 1 xs) ≡ xs
first-and-rest [] h = absurd (omega arith)
first-and-rest (x ∷ xs) h = ap (λ t. x ∷ t) (take_all (length (x ∷ xs) - 1) xs (omega arith))
