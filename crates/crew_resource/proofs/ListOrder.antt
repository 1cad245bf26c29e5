-- The order of lists as a test: by their elements in order, a proper beginning first.
use Rattle.std.proofs.Common.{◌≡◌, Bool, true, false, List, [], ◌∷◌, ◌++◌, length, Ordering, refl, sym, ◌∙◌, ap, arith}
use Rattle.std.specs.Ordering.{is_le, is_gt, ordering_then, ordering_reverse}
use Rattle.std.specs.Cmp.{IsTotalOrder}
use Rattle.std.specs.Cmp.Lexicographic.{slice_cmp}
use Rattle.std.specs.declared.cmp.Ordering.TheVariants.{Less, Equal, Greater}
use Rattle.std.proofs.lemmas.Cmp.{upto, tied_itself}
use Rattle.std.proofs.lemmas.Bool.{false≢true}
use Rattle.crew_resource.proofs.Order.{IsOrder}

-- at most, by a comparison
abbrev pub at_most : {K : Type 0} → (K → K → Ordering) → K → K → Bool
at_most R a b = is_le (R a b)

not_gt : (o : Ordering) → is_le o ≡ true → is_gt o ≡ false
not_gt Less e = refl
not_gt Equal e = refl
not_gt Greater e = absurd (false≢true e)

le_from_not_gt : (o : Ordering) → is_gt o ≡ false → is_le o ≡ true
le_from_not_gt Less e = refl
le_from_not_gt Equal e = refl
le_from_not_gt Greater e = absurd (false≢true (sym e))

both_ways : (o r : Ordering) → o ≡ ordering_reverse r → is_le o ≡ true → is_le r ≡ true → o ≡ Equal
both_ways Less Less q a b = absurd (let z : ⊥ = (cc) in z)
both_ways Less Equal q a b = absurd (let z : ⊥ = (cc) in z)
both_ways Less Greater q a b = absurd (false≢true b)
both_ways Equal r q a b = refl
both_ways Greater r q a b = absurd (false≢true a)

-- a total comparison that tells its elements apart is an order
pub at_most_order : {K : Type 0} (R : K → K → Ordering) → IsTotalOrder R → ((a b : K) → R a b ≡ Equal → a ≡ b) → IsOrder (at_most R)
at_most_order R o exact = record {
  reflexive = λ a. ap is_le (tied_itself o a);
  transitive = λ a b c h k. le_from_not_gt (R a c) (upto o a b c (not_gt (R a b) h) (not_gt (R b c) k));
  antisymmetric = λ a b h k. exact a b (both_ways (R a b) (R b a) (o.antisymm a b) h k);
}

flipped : (p q : Ordering) → q ≡ ordering_reverse p → is_le p ≡ false → is_le q ≡ true
flipped Less q e h = absurd (false≢true (sym h))
flipped Equal q e h = absurd (false≢true (sym h))
flipped Greater q e h = ap is_le e

pub at_most_total : {K : Type 0} (R : K → K → Ordering) → IsTotalOrder R → (a b : K) → at_most R a b ≡ false → at_most R b a ≡ true
at_most_total R o a b h = flipped (R a b) (R b a) (o.antisymm b a) h

then_equal : (o r : Ordering) → ordering_then o r ≡ Equal → (o ≡ Equal) × (r ≡ Equal)
then_equal Less r e = absurd (let z : ⊥ = (cc) in z)
then_equal Equal r e = (refl, e)
then_equal Greater r e = absurd (let z : ⊥ = (cc) in z)

pub lists_exact : {K : Type 0} (R : K → K → Ordering) → ((a b : K) → R a b ≡ Equal → a ≡ b) → (xs ys : List K) → slice_cmp R xs ys ≡ Equal → xs ≡ ys
lists_exact R exact [] [] e = refl
lists_exact R exact [] (y ∷ ys) e = absurd (let z : ⊥ = (cc) in z)
lists_exact R exact (x ∷ xs) [] e = absurd (let z : ⊥ = (cc) in z)
lists_exact R exact (x ∷ xs) (y ∷ ys) e =
    let k = then_equal (R x y) (slice_cmp R xs ys) e in
    ap (λ z. z ∷ xs) (exact x y k.0) ∙ ap (λ z. y ∷ z) (lists_exact R exact xs ys k.1)

then_le : (o r s : Ordering) → is_le (ordering_then o r) ≡ true → (is_le r ≡ true → is_le s ≡ true) → is_le (ordering_then o s) ≡ true
then_le Less r s h f = refl
then_le Equal r s h f = f h
then_le Greater r s h f = absurd (false≢true h)

-- one more element keeps the order of lists of one length
pub lists_grow : {K : Type 0} (R : K → K → Ordering) → IsTotalOrder R → (xs ys : List K) (k : K) → length xs ≡ length ys → at_most (slice_cmp R) xs ys ≡ true → at_most (slice_cmp R) (xs ++ k ∷ []) (ys ++ k ∷ []) ≡ true
lists_grow R o [] [] k e h = ap (λ z. is_le (ordering_then z Equal)) (tied_itself o k)
lists_grow R o [] (y ∷ ys) k e h = absurd (let z : ⊥ = omega arith in z)
lists_grow R o (x ∷ xs) [] k e h = absurd (let z : ⊥ = omega arith in z)
lists_grow R o (x ∷ xs) (y ∷ ys) k e h =
    then_le (R x y) (slice_cmp R xs ys) (slice_cmp R (xs ++ k ∷ []) (ys ++ k ∷ [])) h (λ q. lists_grow R o xs ys k (omega arith) q)
