-- Lists that are alike at each place.
use Rattle.std.proofs.Common.{◌≡◌, ◌<◌, ◌++◌, ℕ, List, [], ◌∷◌, length, ap, arith}
use Rattle.std.specs.Prelude.{slice_get}
use Rattle.crew_version.proofs.Places.{prefix-from}

no-more : {A : Type 0} (xs ys more : List A) → xs ++ more ≡ ys → length xs ≡ length ys → xs ≡ ys
no-more [] ys [] e n = e
no-more [] ys (z ∷ zs) e n = absurd (omega (arith, ap length e, n))
no-more (x ∷ xs) [] more e n = absurd (omega (arith, n))
no-more (x ∷ xs) (y ∷ ys) more e n =
    let head : x ≡ y = cc in
    let tail : xs ++ more ≡ ys = cc in
    let rest : xs ≡ ys = no-more xs ys more tail (omega (arith, n)) in
    cc

-- lists of one length that are alike at each place are one
pub one-list : {A : Type 0} (xs ys : List A) → length xs ≡ length ys → ((k : ℕ) → k < length xs → slice_get xs k ≡ slice_get ys k) → xs ≡ ys
one-list xs ys n same = let p = prefix-from xs ys same in no-more xs ys p.0 p.1 n
