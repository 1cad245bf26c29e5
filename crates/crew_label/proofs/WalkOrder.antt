-- The order of walks that end with a duty more.
use Rattle.std.proofs.Common.{◌≡◌, ℕ, ◌+◌, List, [], ◌∷◌, ◌++◌, length, refl, sym, ◌∙◌, ap, arith, Ordering, length-append}
use Rattle.std.specs.Cmp.Lexicographic.{slice_cmp}
use Rattle.std.proofs.lemmas.Cmp.{lists_total, nat_cmp_total, tied_itself}
use Rattle.std.specs.Ordering.{nat_cmp, ordering_then}
use Rattle.std.specs.declared.cmp.Ordering.TheVariants.{Less, Equal, Greater}

then_equal : (o : Ordering) → ordering_then o Equal ≡ o
then_equal Less = refl
then_equal Equal = refl
then_equal Greater = refl

then_then : (a b c : Ordering) → ordering_then a (ordering_then b c) ≡ ordering_then (ordering_then a b) c
then_then Less b c = refl
then_then Equal b c = refl
then_then Greater b c = refl

-- of walks that are as long, the last duties decide where all before them is the same
pub cmp_longer : (p q : List ℕ) (x y : ℕ) → length p ≡ length q → slice_cmp nat_cmp (p ++ x ∷ []) (q ++ y ∷ []) ≡ ordering_then (slice_cmp nat_cmp p q) (nat_cmp x y)
cmp_longer [] [] x y e = then_equal (nat_cmp x y)
cmp_longer [] (b ∷ q) x y e = absurd (omega arith)
cmp_longer (a ∷ p) [] x y e = absurd (omega arith)
cmp_longer (a ∷ p) (b ∷ q) x y e =
    ap (ordering_then (nat_cmp a b)) (cmp_longer p q x y (omega arith)) ∙ then_then (nat_cmp a b) (slice_cmp nat_cmp p q) (nat_cmp x y)

pub longer : (w v : List ℕ) (d : ℕ) → w ≡ v ++ d ∷ [] → length w ≡ length v + 1
longer w v d e = ap length e ∙ length-append v (d ∷ [])

pub alike : (v w : List ℕ) → v ≡ w → Equal ≡ slice_cmp nat_cmp v w
alike v w e = sym (tied_itself (lists_total nat_cmp_total) v) ∙ ap (slice_cmp nat_cmp v) e
