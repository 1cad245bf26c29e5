-- Numbers that are taken: keys of a slab.
use Rattle.std.specs.Prelude.{◌≡◌, ◌≤◌, ◌<◌, ◌⊎◌, ℕ, List, Option, Some, length, slice_get}
use Rattle.slab.specs.Slab.{ContainsKey, Slab}
use Rattle.crew_numbers.specs.Numbers.{AreNumbers, TellNone}

-- each stands in the list once
abbrev pub AreDistinct : {X : Type 0} → List X → Type 0
AreDistinct {X} xs = (i j : ℕ) (x : X) → slice_get xs i ≡ Some x → slice_get xs j ≡ Some x → i ≡ j

-- the keys of the slab are these numbers
pub record AreKeys (keys : Slab Unit) (numbers : List ℕ) : Type 0 where
  pub held : (rank number : ℕ) → slice_get numbers rank ≡ Some number → ContainsKey keys number
  pub only : (number : ℕ) → ContainsKey keys number
      → (rank : ℕ) × (slice_get numbers rank ≡ Some number)

-- numbers of so many duties, less than 400,000, and the keys of a slab
pub record AreNumbered (numbers ranks : List ℕ) (keys : Slab Unit) (count : ℕ) : Type 0 where
  pub are : AreNumbers numbers ranks count
  pub none : TellNone ranks count
  pub few : length ranks ≤ 400_000
  pub taken : AreKeys keys numbers

-- the numbers that duties keep are keys, and no two keep the same
pub record AreKept (kept : List (Option ℕ)) (keys : Slab Unit) : Type 0 where
  pub held : (i n : ℕ) → slice_get kept i ≡ Some (Some n) → ContainsKey keys n
  pub apart : (i j n : ℕ) → slice_get kept i ≡ Some (Some n) → slice_get kept j ≡ Some (Some n)
      → i ≡ j

-- what keeps a number has it
abbrev pub Keep : List (Option ℕ) → List ℕ → Type 0
Keep kept numbers = (i n : ℕ) → slice_get kept i ≡ Some (Some n) → slice_get numbers i ≡ Some n

-- a number is one that is kept, or was no key
abbrev pub AreFresh : List (Option ℕ) → Slab Unit → List ℕ → Type 0
AreFresh kept keys numbers = (i n : ℕ) → slice_get numbers i ≡ Some n
    → (slice_get kept i ≡ Some (Some n)) ⊎ (ContainsKey keys n → ⊥)

-- the first so many have numbers, each another, which they keep or which were no keys of the old
-- slab; the new one has these keys beside the old ones
pub record AreTaken (kept : List (Option ℕ)) (old : Slab Unit) (count : ℕ) (numbers : List ℕ)
    (new : Slab Unit) : Type 0 where
  pub long : length numbers ≡ count
  pub keep : (i n : ℕ) → i < count → slice_get kept i ≡ Some (Some n)
      → slice_get numbers i ≡ Some n
  pub fresh : AreFresh kept old numbers
  pub apart : AreDistinct numbers
  pub few : (i n : ℕ) → slice_get numbers i ≡ Some n → n < 400_000
  pub held : (i n : ℕ) → slice_get numbers i ≡ Some n → ContainsKey new n
  pub stay : (n : ℕ) → ContainsKey old n → ContainsKey new n
  pub only : (n : ℕ) → ContainsKey new n
      → ContainsKey old n ⊎ ((i : ℕ) × (slice_get numbers i ≡ Some n))
