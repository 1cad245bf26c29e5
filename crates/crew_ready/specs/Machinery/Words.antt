-- Flags in words of 64 bits.
use Rattle.std.specs.Prelude.{◌≡◌, ℕ, ◌+◌, ◌*◌, ◌/◌, ◌%◌, ◌<◌, ◌≤◌, nat_eq, nat_lt, Bool, false, List, get_or, length, map}
use Rattle.std.specs.Int.{bit_at}
use Rattle.std.specs.List.{range_with_len}

-- whether the bit of a place is set, in words side by side
abbrev pub flag_in : List ℕ → ℕ → Bool
flag_in words place = nat_eq (bit_at (get_or words (place / 64) 0) (place % 64)) 1

-- the flags of the places below a number
abbrev pub flags_of : ℕ → List ℕ → List Bool
flags_of n words = map (flag_in words) (range_with_len 0 n)

-- of each word, whether a bit of it is set
abbrev pub used : List ℕ → List Bool
used words = map (nat_lt 0) words

-- words for the places below a number, with no bit set for a place that isn't
pub record IsRow (n : ℕ) (words : List ℕ) : Type 0 where
  pub enough : n ≤ length words * 64
  pub tight : length words * 64 < n + 64
  pub few : n ≤ 4_294_967_295
  pub past : (place : ℕ) → n ≤ place → flag_in words place ≡ false

-- the row above words: of each, whether a bit of it is set
abbrev pub IsAbove : List ℕ → List Bool → Type 0
IsAbove words upper = upper ≡ used words
