-- What a value says of its list: the number of its items, and a bound that each step keeps.
use Rattle.std.proofs.Common.{◌≡◌, ℕ, zero, suc, ◌+◌, ◌<◌, Bool, List, [], ◌∷◌, ◌++◌, length, Option, Some, ℤ, pos, ◌+ℤ◌, sym, ◌∙◌, ap, ⊎_elim, arith, length-append}
use Rattle.std.proofs.lemmas.Int.{ints}
use Rattle.crew_resource.specs.Resource.{OrderLaws, StepLaws}
use Rattle.crew_resource.specs.Stages.{StagedLaws, CountingLaws}
use Rattle.crew_resource.proofs.Order.{IsOrder}
use Rattle.crew_resource.proofs.Pools.{and_then_out}
use Rattle.crew_resource.proofs.Snoc.{snoc_cases, two_last}

-- the laws make an order of the test
pub below_order : {V : Type 0} {cmp : V → V → _} {below : V → V → Bool} → OrderLaws cmp below → IsOrder below
below_order laws = record { reflexive = laws.reflexive; transitive = laws.transitive; antisymmetric = laws.antisymmetric }

longer : {I : Type 0} (bs : List I) (d : I) → pos (length (bs ++ d ∷ [])) ≡ pos (length bs) +ℤ pos 1
longer bs d = let e = length-append bs (d ∷ []) in omega (arith, ints, e)

module _ (V I X G : Type 0) (opens : I → Option V) (extends : V → I → I → Option V) (below : V → V → Bool) (value_of : List I → Option V) (steps : StepLaws opens extends below value_of)
    (arrives : I → X) (leaves : I → G) (idle : G → V) (wait : V → X → G → V) (board : V → I → Option V) (staged : StagedLaws opens extends below arrives leaves idle wait board)
    (count : V → ℤ) (most : ℕ) (counting : CountingLaws count most idle wait board) where
  counts_below : (n : ℕ) (bs : List I) → length bs < n → (d : I) (v : V) → value_of (bs ++ d ∷ []) ≡ Some v → count v ≡ pos (length (bs ++ d ∷ []))
  counts_below zero bs h d v e = absurd (omega arith)
  counts_below (suc n) bs h d v e = ⊎_elim {C = count v ≡ pos (length (bs ++ d ∷ []))}
      (λ is.
      let start : board (idle (leaves d)) d ≡ Some v = sym (staged.opening d) ∙ (sym (steps.opening d) ∙ (ap (λ z. value_of (z ++ d ∷ [])) (sym is) ∙ e)) in
      let one = counting.one_more (idle (leaves d)) v d start in
      let none = counting.none_yet (leaves d) in
      let len : length (bs ++ d ∷ []) ≡ 1 = ap (λ z. length (z ++ d ∷ [])) is in
      omega (arith, ints, one, none, len))
      (λ s.
      let whole : bs ++ d ∷ [] ≡ s.0 ++ s.1 ∷ d ∷ [] = ap (λ z. z ++ d ∷ []) s.2 ∙ two_last s.0 s.1 d in
      let k = and_then_out (λ u. extends u s.1 d) (value_of (s.0 ++ s.1 ∷ [])) v (sym (steps.extension s.0 s.1 d) ∙ (ap value_of (sym whole) ∙ e)) in
      let at = wait k.0 (arrives s.1) (leaves d) in
      let one = counting.one_more at v d (sym (staged.extension k.0 s.1 d) ∙ k.2) in
      let same = counting.none_more k.0 (arrives s.1) (leaves d) in
      let shorter : length s.0 < n = let l = length-append s.0 (s.1 ∷ []) in let m = ap length s.2 in omega (arith, l, m) in
      let before = counts_below n s.0 shorter s.1 k.0 k.1 in
      let len : length bs ≡ length (s.0 ++ s.1 ∷ []) = ap length s.2 in
      let more = longer bs d in
      omega (arith, ints, one, same, before, len, more))
      (snoc_cases bs)

  -- a value's count is the number of items
  pub value_counts : (bs : List I) (d : I) (v : V) → value_of (bs ++ d ∷ []) ≡ Some v → count v ≡ pos (length (bs ++ d ∷ []))
  value_counts bs d v e = counts_below (length bs + 1) bs (omega arith) d v e

  -- so lists of one value have one length
  pub same_length : (xs ys : List I) (x y : I) (v : V) → value_of (xs ++ x ∷ []) ≡ Some v → value_of (ys ++ y ∷ []) ≡ Some v → length (xs ++ x ∷ []) ≡ length (ys ++ y ∷ [])
  same_length xs ys x y v p q = let e : pos (length (xs ++ x ∷ [])) ≡ pos (length (ys ++ y ∷ [])) = sym (value_counts xs x v p) ∙ value_counts ys y v q in (cc)
