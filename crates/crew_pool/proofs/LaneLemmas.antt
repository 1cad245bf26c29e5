-- Four places at a time: what masks tell.
use Rattle.std.proofs.Common.{◌≡◌, ℕ, ◌+◌, ◌%◌, ◌<◌, ◌≤◌, Bool, true, false, not, cond, List, [], ◌∷◌, length, map, get_or, leb, ltb, refl, sym, ◌∙◌, ap, arith, ℤ, pos, negsuc, FitsSigned, to_z, of_z, w32, ⊎_elim}
use Rattle.std.specs.Prelude.{◌&&◌, ◌||◌, if◌then◌else◌, bit_or, bit_xor, int_le, int_lt}
use Rattle.std.specs.Simd.Lanes.{chunk, mask_l, top, zip2}
use Rattle.std.proofs.lemmas.Bool.{cases_Bool, lt-leb, le-leb}
use Rattle.std.proofs.lemmas.Int.{to_z-of_z}
use borrow.Author.Tests.{ltb-true, ltb-false}
use Rattle.crew_pool.specs.Marks.{are_at_most, mark_at}
use Rattle.crew_pool.specs.Machinery.Columns.{AreLevel, rows_of}
use Rattle.crew_pool.proofs.ColumnLemmas.{four_from, long_rows, row_at, same_four}
use Rattle.crew_pool.proofs.MarkLemmas.{and_same}

masked : (b : Bool) → to_z w32 (cond b 4294967295 0) ≡ (if b then negsuc 0 else pos 0)
masked true = refl
masked false = refl

-- a lane of a comparison
pub lane : (x m : ℤ) → FitsSigned w32 x → FitsSigned w32 m → to_z w32 (cond (int_lt (to_z w32 (of_z w32 m)) (to_z w32 (of_z w32 x))) 4294967295 0) ≡ (if int_lt m x then negsuc 0 else pos 0)
lane x m f g = rw (to_z-of_z w32 x f, to_z-of_z w32 m g) (masked (int_lt m x))

-- the lane that a comparison gives
abbrev pub lane_of : Bool → ℕ
lane_of b = of_z w32 (if b then negsuc 0 else pos 0)

set_in_one : (a b c d : Bool) → top 31 (bit_or (bit_or (bit_or (lane_of a) (lane_of b)) (lane_of c)) (lane_of d)) ≡ (((a || b) || c) || d)
set_in_one true true true true = refl
set_in_one true true true false = refl
set_in_one true true false true = refl
set_in_one true true false false = refl
set_in_one true false true true = refl
set_in_one true false true false = refl
set_in_one true false false true = refl
set_in_one true false false false = refl
set_in_one false true true true = refl
set_in_one false true true false = refl
set_in_one false true false true = refl
set_in_one false true false false = refl
set_in_one false false true true = refl
set_in_one false false true false = refl
set_in_one false false false true = refl
set_in_one false false false false = refl

flipped : (a b c d : Bool) → bit_xor (mask_l (a ∷ b ∷ c ∷ d ∷ []) % 18446744073709551616) 15 ≡ mask_l (not a ∷ not b ∷ not c ∷ not d ∷ [])
flipped true true true true = refl
flipped true true true false = refl
flipped true true false true = refl
flipped true true false false = refl
flipped true false true true = refl
flipped true false true false = refl
flipped true false false true = refl
flipped true false false false = refl
flipped false true true true = refl
flipped false true true false = refl
flipped false true false true = refl
flipped false true false false = refl
flipped false false true true = refl
flipped false false true false = refl
flipped false false false true = refl
flipped false false false false = refl

none_above : (a b c d : Bool) → not (((a || b) || c) || d) ≡ (((true && not a) && not b) && not c) && not d
none_above true true true true = refl
none_above true true true false = refl
none_above true true false true = refl
none_above true true false false = refl
none_above true false true true = refl
none_above true false true false = refl
none_above true false false true = refl
none_above true false false false = refl
none_above false true true true = refl
none_above false true true false = refl
none_above false true false true = refl
none_above false true false false = refl
none_above false false true true = refl
none_above false false true false = refl
none_above false false false true = refl
none_above false false false false = refl

turned : (a b : ℕ) → not (ltb b a) ≡ leb a b
turned a b =
    ⊎_elim {C = not (ltb b a) ≡ leb a b}
    (λ t. let h : b < a = ltb-true b a t in ap not t ∙ sym (lt-leb a b h))
    (λ f. let h : a ≤ b = ltb-false b a f in ap not f ∙ sym (le-leb a b h))
    (cases_Bool (ltb b a))

not_above : (x m : ℤ) → not (int_lt m x) ≡ int_le x m
not_above (pos a) (pos b) = turned a b
not_above (pos a) (negsuc b) = refl
not_above (negsuc a) (pos b) = refl
not_above (negsuc a) (negsuc b) = turned b a

-- in one of four columns the number is above the mark
abbrev pub is_above : ℤ → ℤ → ℤ → ℤ → List ℤ → Bool
is_above x y z w m = ((int_lt (mark_at 0 m) x || int_lt (mark_at 1 m) y) || int_lt (mark_at 2 m) z) || int_lt (mark_at 3 m) w

row_passes : (x y z w : ℤ) (m : List ℤ) → not (is_above x y z w m) ≡ are_at_most (x ∷ y ∷ z ∷ w ∷ []) m
unfolding are_at_most
row_passes x y z w m =
    none_above (int_lt (mark_at 0 m) x) (int_lt (mark_at 1 m) y) (int_lt (mark_at 2 m) z) (int_lt (mark_at 3 m) w)
    ∙ and_same (and_same (and_same (and_same {a = true} {b = true} refl (not_above x (mark_at 0 m))) (not_above y (mark_at 1 m))) (not_above z (mark_at 2 m))) (not_above w (mark_at 3 m))

-- the lanes of a column
abbrev pub lanes : ℤ → List ℤ → List ℤ
lanes m xs = map (λ x. if int_lt m x then negsuc 0 else pos 0) xs

module _ {a b c d : List ℤ} (level : AreLevel a b c d) (i : ℕ) (h : i + 4 ≤ length a) (m : List ℤ) where
  abbrev x_at : ℕ → ℤ
  x_at k = get_or a k (pos 0)

  abbrev y_at : ℕ → ℤ
  y_at k = get_or b k (pos 0)

  abbrev z_at : ℕ → ℤ
  z_at k = get_or c k (pos 0)

  abbrev w_at : ℕ → ℤ
  w_at k = get_or d k (pos 0)

  abbrev above_at : ℕ → Bool
  above_at k = is_above (x_at k) (y_at k) (z_at k) (w_at k) m

  set_at : (k : ℕ) → top 31 (bit_or (bit_or (bit_or (lane_of (int_lt (mark_at 0 m) (x_at k))) (lane_of (int_lt (mark_at 1 m) (y_at k)))) (lane_of (int_lt (mark_at 2 m) (z_at k)))) (lane_of (int_lt (mark_at 3 m) (w_at k)))) ≡ above_at k
  set_at k = set_in_one (int_lt (mark_at 0 m) (x_at k)) (int_lt (mark_at 1 m) (y_at k)) (int_lt (mark_at 2 m) (z_at k)) (int_lt (mark_at 3 m) (w_at k))

  passes_at : (k : ℕ) → k < length a → not (above_at k) ≡ are_at_most (get_or (rows_of a b c d) k []) m
  passes_at k l = row_passes (x_at k) (y_at k) (z_at k) (w_at k) m ∙ ap (λ r. are_at_most r m) (sym (row_at level k (pos 0) (pos 0) (pos 0) (pos 0) [] l))

  pub found : bit_xor (mask_l (map (top 31) (zip2 bit_or (zip2 bit_or (zip2 bit_or (map (of_z w32) (lanes (mark_at 0 m) (chunk i 4 a))) (map (of_z w32) (lanes (mark_at 1 m) (chunk i 4 b)))) (map (of_z w32) (lanes (mark_at 2 m) (chunk i 4 c)))) (map (of_z w32) (lanes (mark_at 3 m) (chunk i 4 d))))) % 18446744073709551616) 15
      ≡ mask_l (map (λ row. are_at_most row m) (chunk i 4 (rows_of a b c d)))
  found =
      let rows = rows_of a b c d in
      rw (four_from a i (pos 0) h, four_from b i (pos 0) (omega (arith, h, level.second)), four_from c i (pos 0) (omega (arith, h, level.third)), four_from d i (pos 0) (omega (arith, h, level.fourth)), four_from rows i [] (omega (arith, h, long_rows level)))
      (ap (λ bs. bit_xor (mask_l bs % 18446744073709551616) 15) (same_four (set_at i) (set_at (i + 1)) (set_at (i + 2)) (set_at (i + 3)))
      ∙ (flipped (above_at i) (above_at (i + 1)) (above_at (i + 2)) (above_at (i + 3))
      ∙ ap mask_l (same_four (passes_at i (omega (arith, h))) (passes_at (i + 1) (omega (arith, h))) (passes_at (i + 2) (omega (arith, h))) (passes_at (i + 3) (omega (arith, h))))))
