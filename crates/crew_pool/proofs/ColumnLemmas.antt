-- Marks by column.
use Rattle.std.proofs.Common.{◌≡◌, ℕ, zero, suc, ◌+◌, ◌<◌, ◌≤◌, ◌≤ℤ◌, pos, true, List, [], ◌∷◌, ◌++◌, length, take, map, get_or, set, refl, sym, ◌∙◌, ap, arith, ℤ}
use Rattle.std.specs.List.{swap}
use Rattle.std.specs.Simd.Lanes.{chunk, zip2}
use Rattle.std.proofs.Math.ListN.{get_or-map}
use Rattle.std.proofs.lemmas.List.{length-map, map-append, take-map}
use Rattle.std.proofs.lemmas.Simd.{length-zip2, get_or-zip2}
use Rattle.crew_pool.specs.Marks.{are_at_most, mark_at}
use Rattle.crew_pool.specs.Machinery.Columns.{AreLevel, Rows, before_each, least, rows_of}
use Rattle.crew_pool.proofs.LabelLemmas.{map-swap}
use Rattle.crew_pool.proofs.MarkLemmas.{and_true, le_yes}

-- ---- lists side by side
module _ {X Y Z : Type 0} (f : X → Y → Z) where
  take-zip2 : (n : ℕ) (xs : List X) (ys : List Y) → zip2 f (take n xs) (take n ys) ≡ take n (zip2 f xs ys)
  take-zip2 zero xs ys = refl
  take-zip2 (suc n) [] ys = refl
  take-zip2 (suc n) (x ∷ xs) [] = refl
  take-zip2 (suc n) (x ∷ xs) (y ∷ ys) = ap (λ r. f x y ∷ r) (take-zip2 n xs ys)

  append-zip2 : (xs us : List X) (ys vs : List Y) → length xs ≡ length ys → zip2 f (xs ++ us) (ys ++ vs) ≡ zip2 f xs ys ++ zip2 f us vs
  append-zip2 [] us [] vs e = refl
  append-zip2 [] us (y ∷ ys) vs e = absurd (omega (arith, e))
  append-zip2 (x ∷ xs) us [] vs e = absurd (omega (arith, e))
  append-zip2 (x ∷ xs) us (y ∷ ys) vs e = ap (λ r. f x y ∷ r) (append-zip2 xs us ys vs (omega (arith, e)))

  set-zip2 : (xs : List X) (ys : List Y) (i : ℕ) (x : X) (y : Y) → zip2 f (set xs i x) (set ys i y) ≡ set (zip2 f xs ys) i (f x y)
  set-zip2 [] ys i x y = refl
  set-zip2 (a ∷ xs) [] zero x y = refl
  set-zip2 (a ∷ xs) [] (suc i) x y = refl
  set-zip2 (a ∷ xs) (b ∷ ys) zero x y = refl
  set-zip2 (a ∷ xs) (b ∷ ys) (suc i) x y = ap (λ r. f a b ∷ r) (set-zip2 xs ys i x y)

  swap-zip2 : (xs : List X) (ys : List Y) (i j : ℕ) → length xs ≡ length ys → i < length xs → j < length xs → zip2 f (swap xs i j) (swap ys i j) ≡ swap (zip2 f xs ys) i j
  swap-zip2 [] ys i j e p q = refl
  swap-zip2 (d ∷ xs) [] i j e p q = absurd (omega (arith, e))
  swap-zip2 (d ∷ xs) (g ∷ ys) i j e p q =
      let us = d ∷ xs in
      let vs = g ∷ ys in
      let zs = zip2 f us vs in
      let at = λ (k : ℕ) (h : k < length us). get_or-zip2 f us vs k d g (f d g) h (omega (arith, h, e)) in
      set-zip2 (set us i (get_or us j d)) (set vs i (get_or vs j g)) j (get_or us i d) (get_or vs i g)
      ∙ (ap (λ r. set r j (f (get_or us i d) (get_or vs i g))) (set-zip2 us vs i (get_or us j d) (get_or vs j g))
      ∙ (ap (λ z. set (set zs i z) j (f (get_or us i d) (get_or vs i g))) (sym (at j q))
      ∙ ap (λ z. set (set zs i (get_or zs j (f d g))) j z) (sym (at i p))))

-- ---- rows
module _ {a b c d : List ℤ} (level : AreLevel a b c d) where
  long_d : length (map (λ (x : ℤ). x ∷ []) d) ≡ length a
  long_d = length-map d (λ x. x ∷ []) ∙ level.fourth

  long_c : length (before_each c (map (λ x. x ∷ []) d)) ≡ length a
  long_c = length-zip2 (λ x xs. x ∷ xs) c (map (λ x. x ∷ []) d) (level.third ∙ sym long_d) ∙ level.third

  long_b : length (before_each b (before_each c (map (λ x. x ∷ []) d))) ≡ length a
  long_b = length-zip2 (λ x xs. x ∷ xs) b (before_each c (map (λ x. x ∷ []) d)) (level.second ∙ sym long_c) ∙ level.second

  pub long_rows : length (rows_of a b c d) ≡ length a
  long_rows = length-zip2 (λ x xs. x ∷ xs) a (before_each b (before_each c (map (λ x. x ∷ []) d))) (sym long_b)

  -- as many as a model has
  pub long_view : {n : ℕ} {r : Rows} → record { rows = rows_of a b c d; room = n } ≡ r → length r.rows ≡ length a
  long_view e = sym (ap (λ r. length r.rows) e) ∙ long_rows

  pub row_at : (k : ℕ) (x y z w : ℤ) (r : List ℤ) → k < length a → get_or (rows_of a b c d) k r ≡ get_or a k x ∷ get_or b k y ∷ get_or c k z ∷ get_or d k w ∷ []
  row_at k x y z w r h =
      let one = λ (x : ℤ). x ∷ [] in
      let put = λ (x : ℤ) (xs : List ℤ). x ∷ xs in
      let rest_c = before_each c (map one d) in
      let rest_b = before_each b rest_c in
      get_or-zip2 put a rest_b k x (y ∷ z ∷ w ∷ []) r h (omega (arith, h, long_b))
      ∙ ap (put (get_or a k x)) (get_or-zip2 put b rest_c k y (z ∷ w ∷ []) (y ∷ z ∷ w ∷ []) (omega (arith, h, level.second)) (omega (arith, h, long_c))
      ∙ ap (put (get_or b k y)) (get_or-zip2 put c (map one d) k z (one w) (z ∷ w ∷ []) (omega (arith, h, level.third)) (omega (arith, h, long_d))
      ∙ ap (put (get_or c k z)) (get_or-map one d k w)))

  -- marks that are at most the numbers of each column are at most those of each row
  pub below_rows : (x y z w : ℤ) → ((k : ℕ) → k < length a → x ≤ℤ get_or a k (pos 0)) → ((k : ℕ) → k < length b → y ≤ℤ get_or b k (pos 0))
      → ((k : ℕ) → k < length c → z ≤ℤ get_or c k (pos 0)) → ((k : ℕ) → k < length d → w ≤ℤ get_or d k (pos 0))
      → (k : ℕ) → k < length a → are_at_most (x ∷ y ∷ z ∷ w ∷ []) (get_or (rows_of a b c d) k []) ≡ true
  unfolding are_at_most
  below_rows x y z w p q r s k h =
      let zero = pos 0 in
      let four = get_or a k zero ∷ get_or b k zero ∷ get_or c k zero ∷ get_or d k zero ∷ [] in
      let below : are_at_most (x ∷ y ∷ z ∷ w ∷ []) four ≡ true =
      and_true (and_true (and_true (and_true refl (le_yes x (get_or a k zero) (p k h)))
      (le_yes y (get_or b k zero) (q k (omega (arith, h, level.second)))))
      (le_yes z (get_or c k zero) (r k (omega (arith, h, level.third)))))
      (le_yes w (get_or d k zero) (s k (omega (arith, h, level.fourth))))
      in
      ap (are_at_most (x ∷ y ∷ z ∷ w ∷ [])) (row_at k zero zero zero zero [] h) ∙ below

  pub rows_taken : (n : ℕ) → rows_of (take n a) (take n b) (take n c) (take n d) ≡ take n (rows_of a b c d)
  rows_taken n =
      let one = λ (x : ℤ). x ∷ [] in
      let put = λ (x : ℤ) (xs : List ℤ). x ∷ xs in
      ap (λ r. before_each (take n a) (before_each (take n b) (before_each (take n c) r))) (sym (take-map one n d))
      ∙ (ap (λ r. before_each (take n a) (before_each (take n b) r)) (take-zip2 put n c (map one d))
      ∙ (ap (before_each (take n a)) (take-zip2 put n b (before_each c (map one d)))
      ∙ take-zip2 put n a (before_each b (before_each c (map one d)))))

  pub rows_joined : (x y z w : List ℤ) → rows_of (a ++ x) (b ++ y) (c ++ z) (d ++ w) ≡ rows_of a b c d ++ rows_of x y z w
  rows_joined x y z w =
      let one = λ (x : ℤ). x ∷ [] in
      let put = λ (x : ℤ) (xs : List ℤ). x ∷ xs in
      ap (λ r. before_each (a ++ x) (before_each (b ++ y) (before_each (c ++ z) r))) (map-append one d w)
      ∙ (ap (λ r. before_each (a ++ x) (before_each (b ++ y) r)) (append-zip2 put c z (map one d) (map one w) (level.third ∙ sym long_d))
      ∙ (ap (before_each (a ++ x)) (append-zip2 put b y (before_each c (map one d)) (before_each z (map one w)) (level.second ∙ sym long_c))
      ∙ append-zip2 put a x (before_each b (before_each c (map one d))) (before_each y (before_each z (map one w))) (sym long_b)))

  pub rows_swapped : (i j : ℕ) → i < length a → j < length a → rows_of (swap a i j) (swap b i j) (swap c i j) (swap d i j) ≡ swap (rows_of a b c d) i j
  rows_swapped i j p q =
      let one = λ (x : ℤ). x ∷ [] in
      let put = λ (x : ℤ) (xs : List ℤ). x ∷ xs in
      ap (λ r. before_each (swap a i j) (before_each (swap b i j) (before_each (swap c i j) r))) (map-swap one d i j)
      ∙ (ap (λ r. before_each (swap a i j) (before_each (swap b i j) r)) (swap-zip2 put c (map one d) i j (level.third ∙ sym long_d) (omega (arith, p, level.third)) (omega (arith, q, level.third)))
      ∙ (ap (before_each (swap a i j)) (swap-zip2 put b (before_each c (map one d)) i j (level.second ∙ sym long_c) (omega (arith, p, level.second)) (omega (arith, q, level.second)))
      ∙ swap-zip2 put a (before_each b (before_each c (map one d))) i j (sym long_b) p q))

pub same_four : {X : Type 0} {x y z w p q r s : X} → x ≡ p → y ≡ q → z ≡ r → w ≡ s → (x ∷ y ∷ z ∷ w ∷ []) ≡ (p ∷ q ∷ r ∷ s ∷ [])
same_four a b c d = λ i. a i ∷ b i ∷ c i ∷ d i ∷ []

-- four elements from a place on
four_at : {X : Type 0} (xs : List X) (i : ℕ) (e : X) → i + 4 ≤ length xs → chunk i 4 xs ≡ get_or xs i e ∷ get_or xs (suc i) e ∷ get_or xs (suc (suc i)) e ∷ get_or xs (suc (suc (suc i))) e ∷ []
four_at [] i e h = absurd (omega (arith, h))
four_at (x ∷ []) zero e h = absurd (omega (arith, h))
four_at (x ∷ y ∷ []) zero e h = absurd (omega (arith, h))
four_at (x ∷ y ∷ z ∷ []) zero e h = absurd (omega (arith, h))
four_at (x ∷ y ∷ z ∷ w ∷ xs) zero e h = refl
four_at (x ∷ xs) (suc i) e h = four_at xs i e (omega (arith, h))

pub four_from : {X : Type 0} (xs : List X) (i : ℕ) (e : X) → i + 4 ≤ length xs → chunk i 4 xs ≡ get_or xs i e ∷ get_or xs (i + 1) e ∷ get_or xs (i + 2) e ∷ get_or xs (i + 3) e ∷ []
four_from xs i e h =
    let p : suc i ≡ i + 1 = omega arith in
    let q : suc (suc i) ≡ i + 2 = omega arith in
    let r : suc (suc (suc i)) ≡ i + 3 = omega arith in
    four_at xs i e h ∙ same_four refl (ap (λ n. get_or xs n e) p) (ap (λ n. get_or xs n e) q) (ap (λ n. get_or xs n e) r)

-- what there is room for in all there is room for in each
pub record IsWithin (n a b c d : ℕ) : Type 0 where
  pub first : n ≤ a
  pub second : n ≤ b
  pub third : n ≤ c
  pub fourth : n ≤ d

pub within_least : (n a b c d : ℕ) → n ≤ least a b c d → IsWithin n a b c d
within_least n a b c d h = record {
  first = grind (arith);
  second = grind (arith);
  third = grind (arith);
  fourth = grind (arith);
}

pub room_of : {n : ℕ} {rows : List (List ℤ)} {a b c d : ℕ} {r : Rows} → record { rows = rows; room = least a b c d } ≡ r → n ≤ r.room → IsWithin n a b c d
room_of {n} {rows} {a} {b} {c} {d} e h = within_least n a b c d (let same = ap (λ r. r.room) e in omega (arith, h, same))

pub least_from : (n a b c d : ℕ) → IsWithin n a b c d → n ≤ least a b c d
least_from n a b c d h = let p = h.first in let q = h.second in let r = h.third in let s = h.fourth in grind (arith)

-- the marks of a row of four
pub four_marks : (m : List ℤ) → length m ≡ 4 → (mark_at 0 m ∷ mark_at 1 m ∷ mark_at 2 m ∷ mark_at 3 m ∷ []) ≡ m
four_marks [] e = absurd (omega (arith, e))
four_marks (x ∷ []) e = absurd (omega (arith, e))
four_marks (x ∷ y ∷ []) e = absurd (omega (arith, e))
four_marks (x ∷ y ∷ z ∷ []) e = absurd (omega (arith, e))
four_marks (x ∷ y ∷ z ∷ w ∷ []) e = refl
four_marks (x ∷ y ∷ z ∷ w ∷ v ∷ m) e = absurd (omega (arith, e))
