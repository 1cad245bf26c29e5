-- The numbers of flights and the codes of places.
use Rattle.std.specs.Prelude.{◌≤◌, ◌&&◌, ◌==◌, ◌∷◌, ◌+◌, ◌/◌, ◌%◌, ℕ, nat_le, nat_lt, Bool, List, [], length}
use Rattle.std.specs.List.{list_all}
use Rattle.std.specs.declared.cmp.Ordering.{Ordering}
use Rattle.std.specs.Ordering.{nat_cmp, then_cmp}
use Rattle.std.specs.Cmp.{IsTotalOrder, nat_cmp_total, on_total, then_total}
use Rattle.std.specs.Cmp.Lexicographic.{slice_cmp, lists_total}

-- one to six digits, with no zero in front
pub record IsFlightNumber (number : ℕ) : Type 0 where
  pub from : 1 ≤ number
  pub to : number ≤ 999_999

-- a letter of A to Z
abbrev pub is_letter : ℕ → Bool
is_letter byte = nat_le 65 byte && nat_le byte 90

-- the code of a place: three bytes
abbrev pub is_code : List ℕ → Bool
is_code bytes = (length bytes == 3) && list_all (λ byte. nat_lt byte 256) bytes

-- the code of an airport: three letters
abbrev pub is_airport : List ℕ → Bool
is_airport letters = (length letters == 3) && list_all is_letter letters

-- the place between a flight and the one that follows it, by the number of the first: the number in
-- digits of seven bits, each with the eighth bit set. So it is no airport's, whose letters are below
-- 128
abbrev pub own_place : ℕ → List ℕ
own_place number = (128 + number / 16_384) ∷ (128 + (number / 128) % 128) ∷ (128 + number % 128) ∷ []

-- codes stand in the order of their bytes, and so those of airports in that of the alphabet
abbrev pub code_cmp : List ℕ → List ℕ → Ordering
code_cmp = slice_cmp nat_cmp

pub code_cmp_total : IsTotalOrder code_cmp
code_cmp_total = lists_total nat_cmp_total

-- two flights stand in the order of the first's number, and then of the second's
abbrev pub pair_cmp : ℕ × ℕ → ℕ × ℕ → Ordering
pair_cmp = then_cmp (λ a b. nat_cmp a.0 b.0) (λ a b. nat_cmp a.1 b.1)

pub pair_cmp_total : IsTotalOrder pair_cmp
pair_cmp_total = then_total (on_total (λ p. p.0) nat_cmp_total) (on_total (λ p. p.1) nat_cmp_total)
