-- What two lists in one order have in common, by place.
use Rattle.std.specs.Prelude.{◌≡◌, ◌<◌, ◌^◌, ℕ, List, Option, Some, length, slice_get}
use Rattle.std.specs.declared.cmp.Ordering.{Ordering}
use Rattle.std.specs.declared.cmp.Ordering.TheVariants.{Equal, Less}

-- each stands before all later ones
abbrev pub DoRise : {X : Type 0} → (X → X → Ordering) → List X → Type 0
DoRise {X} cmp xs = (i j : ℕ) (a b : X) → i < j → slice_get xs i ≡ Some a → slice_get xs j ≡ Some b
    → cmp a b ≡ Less

-- the items at both places are tied
abbrev pub AreTied : {X : Type 0} → (X → X → Ordering) → List X → List X → ℕ → ℕ → Type 0
AreTied {X} cmp xs ys p q = (x : X) × (y : X) × (slice_get xs p ≡ Some x)
    × (slice_get ys q ≡ Some y) × (cmp y x ≡ Equal)

-- by place of one list, where the other has what is tied with it
pub record AreMatches {X : Type 0} (cmp : X → X → Ordering) (xs ys : List X)
    (places : List (Option ℕ)) : Type 0 where
  pub long : length places ≡ length xs
  pub tied : (p q : ℕ) → slice_get places p ≡ Some (Some q) → AreTied cmp xs ys p q
  pub all : DoRise cmp xs → DoRise cmp ys → length ys < 2 ^ 32 → (p q : ℕ)
      → AreTied cmp xs ys p q → slice_get places p ≡ Some (Some q)
