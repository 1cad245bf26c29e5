-- Marks, compared place by place.
use Rattle.std.specs.Prelude.{Bool, true, ◌&&◌, ℕ, suc, zero, List, ℤ, pos, int_le, slice_index_or}

-- the mark at a place
abbrev pub mark_at : ℕ → List ℤ → ℤ
mark_at k a = slice_index_or a k (pos 0)

-- each of the first so many marks is at most the other's
abbrev pub are_first : ℕ → List ℤ → List ℤ → Bool
are_first zero a b = true
are_first (suc n) a b = are_first n a b && int_le (mark_at n a) (mark_at n b)

-- each of four
unfoldable pub are_at_most : List ℤ → List ℤ → Bool
are_at_most a b = are_first 4 a b
