-- The walks of labels.
use Rattle.std.specs.Prelude.{◌≡◌, ℕ, ◌<◌, Bool, List, [], ◌∷◌, ◌++◌, cond, length, nat_eq}
use Rattle.std.specs.Cmp.Lexicographic.{slice_cmp}
use Rattle.std.specs.Ordering.{is_le, is_lt, nat_cmp}
use Rattle.crew_resource.specs.Members.{Member}
use Rattle.crew_resource.specs.Labels.{IsLocal}
use Rattle.crew_pool.specs.Arena.{walk_at}
use Rattle.crew_pool.specs.declared.label_walk.LabelWalk.{LabelWalk}

-- the walk of no duty, or of one
abbrev pub duty_of : ℕ → List ℕ
duty_of duty = cond (nat_eq duty 4294967295) [] (duty ∷ [])

-- the walk at the tail's place, and then its duty, if it has one
abbrev pub walk_of_label : List (List ℕ) → LabelWalk → List ℕ
walk_of_label walks t = walk_at walks t.walk ++ duty_of t.duty

-- a label's vector and walk
abbrev pub shown : {V : Type 0} → List (List ℕ) → V × LabelWalk → V × List ℕ
shown walks l = (l.0, walk_of_label walks l.1)

-- both have a walk, as long, and both a duty after it, or neither
pub record AreAlike (walks : List (List ℕ)) (a b : LabelWalk) : Type 0 where
  pub first : a.walk < length walks
  pub second : b.walk < length walks
  pub duties : nat_eq a.duty 4294967295 ≡ nat_eq b.duty 4294967295
  pub long : length (walk_at walks a.walk) ≡ length (walk_at walks b.walk)

-- walks of one vector are as long
abbrev pub AreAlikeWhereSame : {V : Type 0} → List (List ℕ) → List (V × LabelWalk)
    → List (V × LabelWalk) → Type 0
AreAlikeWhereSame {V} walks xs ys = (a b : V × LabelWalk) → Member xs a → Member ys b
    → a.0 ≡ b.0 → AreAlike walks a.1 b.1

-- one walk by rank is at most another
abbrev pub ranks_at_most : List ℕ → List ℕ → Bool
ranks_at_most a b = is_le (slice_cmp nat_cmp a b)

-- the tail with the lesser walk
abbrev pub lesser_label_walk : List (List ℕ) → LabelWalk → LabelWalk → LabelWalk
lesser_label_walk walks was tail = cond
    (is_lt (slice_cmp nat_cmp (walk_of_label walks tail) (walk_of_label walks was))) tail was

-- the entries are the undominated ones of the candidates, each vector with its least walk
abbrev pub IsPoolOf : {V : Type 0} → (V → V → Bool) → List (V × List ℕ) → List (V × List ℕ) → Type 0
IsPoolOf below candidates entries = IsLocal below ranks_at_most (λ v w. Member candidates (v, w))
    entries
