-- How many duties begin with each of some flights.
use Rattle.std.specs.Prelude.{◌≡◌, ◌≤◌, ◌<◌, ℕ, List, length, sum}
use Rattle.std.specs.List.{AllZip, flat_map, range_with_len}
use Rattle.crew_pairing.specs.declared.duty.Duty.{Duty}

-- the lengths of some lists, from a place on
abbrev pub AreExact : (ℕ → List Duty) → ℕ → List ℕ → Type 0
AreExact F from counts = AllZip (λ place n. n ≡ length (F place))
    (range_with_len from (length counts)) counts

-- the same; where they come to more than may be listed, so do the lists, and then they need not be
-- right
pub record AreCounts (F : ℕ → List Duty) (from many : ℕ) (counts : List ℕ) : Type 0 where
  pub all : length counts ≡ many
  pub exact : sum counts ≤ 200_000 → AreExact F from counts
  pub over : 200_000 < sum counts → 200_000 < length (flat_map F (range_with_len from many))
