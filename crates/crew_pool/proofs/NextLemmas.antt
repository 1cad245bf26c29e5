-- The next place whose marks are at most others.
use Rattle.std.proofs.Common.{refl, get_or, true, ◌≡◌, ℕ, ◌+◌, ◌*◌, ◌<◌, ◌≤◌, ◌⊎◌, Bool, false, not, cond, List, [], ◌∷◌, length, map, Option, Some, None, sym, subst, ◌∙◌, ap, arith, ℤ, ⊎_elim, true≢false}
use Rattle.std.specs.Prelude.{MatchOption, slice_get, slice_index_or}
use Rattle.std.specs.List.{position, prefix_len}
use Rattle.std.proofs.lemmas.List.{length-map}
use Rattle.std.proofs.lemmas.Option.{same_Some}
use Rattle.std.specs.Simd.Lanes.{chunk, mask_l}
use Rattle.std.proofs.lemmas.Bool.{cases_Bool}
use Rattle.std.proofs.lemmas.Simd.{length-chunk, none_from_empty_mask, run_in_chunk_fails, run_in_chunk_stops, trailing_mask_l}
use lib.Count.{count_trailing_zeros}
use Rattle.crew_pool.specs.Marks.{are_at_most}
use Rattle.crew_pool.proofs.LabelLemmas.{NoneOf, first-found, label-at, mark-at, none-found, none-more}
use Rattle.crew_pool.specs.Machinery.Columns.{IsNext, NoneBetween, is_at_most}
use Rattle.crew_pool.proofs.MarkLemmas.{at_most_between}

module _ (rows : List (List ℤ)) (m : List ℤ) where
  pub none_yet : (i : ℕ) → NoneBetween rows m i i
  none_yet i k p q = absurd (omega arith)

  pub none_joined : {i j n : ℕ} → NoneBetween rows m i j → NoneBetween rows m j n → NoneBetween rows m i n
  none_joined {i} {j} {n} f g k p q = ⊎_elim {C = is_at_most rows m k ≡ false} (λ h. f k p h) (λ h. g k h q) (side k j)
    where
      side : (k j : ℕ) → (k < j) ⊎ (j ≤ k)
      side k j = grind (arith)

  pub none_more : {i j : ℕ} → NoneBetween rows m i j → is_at_most rows m j ≡ false → NoneBetween rows m i (j + 1)
  none_more {i} {j} f h = none_joined f (λ k p q. let e : j ≡ k = omega arith in subst (λ n. is_at_most rows m n ≡ false) e h)

  -- what is next from a place on is so from an earlier one, where none is between
  pub next_from : (i j : ℕ) (o : Option ℕ) → i ≤ j → NoneBetween rows m i j → MatchOption o (NoneBetween rows m j (length rows)) (IsNext rows m j) → MatchOption o (NoneBetween rows m i (length rows)) (IsNext rows m i)
  next_from i j None le f h = none_joined f h
  next_from i j (Some k) le f h = record {
    there = h.there;
    onward = let on = h.onward in omega (arith, on, le);
    passes = h.passes;
    none = none_joined f h.none;
  }

  -- a lane is set, and the first of them is a place among its four
  some_lane : (p : List ℤ → Bool) (xs : List (List ℤ)) → 0 < mask_l (map p xs) → prefix_len (λ x. not (p x)) xs < length xs
  some_lane p [] h = absurd (omega (arith, h))
  some_lane p (x ∷ xs) h =
      ⊎_elim {C = prefix_len (λ y. not (p y)) (x ∷ xs) < length (x ∷ xs)}
      (λ t. let e : prefix_len (λ y. not (p y)) (x ∷ xs) ≡ 0 = ap (λ b. cond (not b) (1 + prefix_len (λ y. not (p y)) xs) 0) t in omega (arith, e))
      (λ f.
      let e : prefix_len (λ y. not (p y)) (x ∷ xs) ≡ 1 + prefix_len (λ y. not (p y)) xs = ap (λ b. cond (not b) (1 + prefix_len (λ y. not (p y)) xs) 0) f in
      let rest : mask_l (map p (x ∷ xs)) ≡ 0 + 2 * mask_l (map p xs) = ap (λ b. cond b 1 0 + 2 * mask_l (map p xs)) f in
      let less = some_lane p xs (omega (arith, h, rest)) in
      omega (arith, e, less))
      (cases_Bool (p x))

  module _ (at : ℕ) (room : at + 4 ≤ length rows) (mask : ℕ) (is : mask ≡ mask_l (map (λ row. are_at_most row m) (chunk at 4 rows))) where
    long : length (chunk at 4 rows) ≡ 4
    long = length-chunk at 4 rows room

    pub none_of_four : mask ≡ 0 → NoneBetween rows m at (at + 4)
    none_of_four e = none_from_empty_mask (λ row. are_at_most row m) rows at 4 [] room (sym is ∙ e)

    pub next_of_four : (r : ℕ) → 0 < mask → r ≡ count_trailing_zeros 64 mask → IsNext rows m at (at + r)
    next_of_four r some e =
        let p = λ (row : List ℤ). are_at_most row m in
        let lit : 0 < mask_l (map p (chunk at 4 rows)) = omega (arith, some, is) in
        let counted : r ≡ prefix_len (λ x. not (p x)) (chunk at 4 rows) = e ∙ (ap (count_trailing_zeros 64) is ∙ trailing_mask_l p 64 (chunk at 4 rows) (omega (arith, long)) lit) in
        let few : r < 4 = (let less = some_lane p (chunk at 4 rows) lit in omega (arith, less, counted, long)) in
        record {
          there = omega (arith, few, room);
          onward = omega arith;
          passes = run_in_chunk_stops p rows at 4 r [] room counted few;
          none = run_in_chunk_fails p rows at 4 r [] room counted;
        }

not_so : (b : Bool) → (b ≡ true → ⊥) → b ≡ false
not_so true h = absurd (h refl)
not_so false h = refl

-- a list is searched by its marks: what passes has marks that are at most these
module _ {X : Type 0} (f : X → List ℤ) (test : X → Bool) (m v : List ℤ) (same : m ≡ v)
    (rise : (x : X) → test x ≡ true → are_at_most (f x) v ≡ true)
    (rows : List (List ℤ)) (items xs : List X) (marked : rows ≡ map f items) (seen : items ≡ xs) where
  as_long : length rows ≡ length xs
  as_long = ap length marked ∙ (length-map items f ∙ ap length seen)

  -- what isn't found by its marks doesn't pass
  passed_over : (i j : ℕ) → NoneOf f test xs i → NoneBetween rows m i j → NoneOf f test xs j
  passed_over i j none over k x l at =
      ⊎_elim {C = test x ≡ false} (λ h. none k x h at) (λ h.
      let mark : get_or rows k [] ≡ f x = ap (λ rs. get_or rs k []) marked ∙ mark-at f test items k x [] (ap (λ z. slice_get z k) seen ∙ at) in
      let apart : are_at_most (f x) v ≡ false = ap (are_at_most (f x)) (sym same) ∙ (ap (λ r. are_at_most r m) (sym mark) ∙ over k h l) in
      not_so (test x) (λ t. true≢false (sym (rise x t) ∙ apart)))
      (side k i)
    where
      side : (k i : ℕ) → (k < i) ⊎ (i ≤ k)
      side k i = grind (arith)

  -- where marks that are at most all aren't at most these, none passes
  pub none_at_all : (least : List ℤ) → ((k : ℕ) → k < length (map f xs) → are_at_most least (slice_index_or (map f xs) k []) ≡ true) → are_at_most least m ≡ false → NoneOf f test xs (length xs)
  none_at_all least below apart k x l at =
      let mark : get_or (map f xs) k [] ≡ f x = mark-at f test xs k x [] at in
      let low : are_at_most least (f x) ≡ true = ap (are_at_most least) (sym mark) ∙ below k (omega (arith, l, length-map xs f)) in
      not_so (test x) (λ t. true≢false (sym (at_most_between least (f x) v low (rise x t)) ∙ (ap (are_at_most least) (sym same) ∙ apart)))

  module _ (i place : ℕ) (x : X) (passes : Bool) (none : NoneOf f test xs i) (next : IsNext rows m i place)
      (is : x ≡ get_or items place x) (told : passes ≡ test x) where
    there : place < length xs
    there = let h = next.there in omega (arith, h, as_long)

    read : slice_get xs place ≡ Some x
    read = label-at f test xs place x there (is ∙ ap (λ ls. get_or ls place x) seen)

    before : NoneOf f test xs place
    before = passed_over i place none next.none

    pub found_here : passes ≡ true → Some place ≡ position test xs
    found_here t = first-found f test xs place x before read (sym told ∙ t)

    pub goes_on : passes ≡ false → (place + 1 ≤ length xs) × NoneOf f test xs (place + 1)
    goes_on t = (let h = there in omega (arith, h), none-more f test xs place before (λ y at. ap test (sym (same_Some x y (sym read ∙ at))) ∙ (sym told ∙ t)))

  pub none_left : (i : ℕ) → NoneOf f test xs i → NoneBetween rows m i (length rows) → None ≡ position test xs
  none_left i none over = none-found f test xs (passed_over i (length xs) none (λ k p q. over k p (omega (arith, q, as_long))))
