-- The numbers that what two lists have alike keeps.
use Rattle.std.specs.Prelude.{◌≡◌, ℕ, List, Option, Some, None, length, slice_get}

-- where something stands in a list, and none where it doesn't
abbrev pub IsFoundAt : {K : Type 0} → List K → K → Option ℕ → Type 0
IsFoundAt ks k None = (i : ℕ) → slice_get ks i ≡ Some k → ⊥
IsFoundAt ks k (Some i) = slice_get ks i ≡ Some k

-- the number that something had, and none where it had none
abbrev pub IsKeptNumber : {K : Type 0} → List K → List ℕ → K → Option ℕ → Type 0
IsKeptNumber olds numbers k None = (r : ℕ) → slice_get olds r ≡ Some k → ⊥
IsKeptNumber olds numbers k (Some n) = (r : ℕ) × (slice_get olds r ≡ Some k)
    × (slice_get numbers r ≡ Some n)

-- for each new item the number that it had among the old ones
pub record AreKeptOf {K : Type 0} (olds news : List K) (numbers : List ℕ)
    (kept : List (Option ℕ)) : Type 0 where
  pub long : length kept ≡ length news
  pub exact : (i : ℕ) (k : K) (o : Option ℕ) → slice_get news i ≡ Some k
      → slice_get kept i ≡ Some o → IsKeptNumber olds numbers k o

-- what stands in both lists has the number that it had
abbrev pub StayIn : {K : Type 0} → List K → List K → List ℕ → List ℕ → Type 0
StayIn {K} olds news before after = (r i n : ℕ) (k : K) → slice_get olds r ≡ Some k
    → slice_get news i ≡ Some k → slice_get before r ≡ Some n → slice_get after i ≡ Some n

-- what has one number in both lists is the same
abbrev pub AlikeIn : {K : Type 0} → List K → List K → List ℕ → List ℕ → Type 0
AlikeIn {K} olds news before after = (r i n : ℕ) (k l : K) → slice_get olds r ≡ Some k
    → slice_get news i ≡ Some l → slice_get before r ≡ Some n → slice_get after i ≡ Some n → k ≡ l
