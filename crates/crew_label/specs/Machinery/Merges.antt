-- Two lists of labels that rise, as one.
use Rattle.std.specs.Prelude.{◌≡◌, ℕ, ◌<◌, ◌⊎◌, List, length, slice_get, Some}
use Rattle.std.specs.declared.cmp.Ordering.{Ordering}
use Rattle.std.specs.declared.cmp.Ordering.TheVariants.{Less}
use Rattle.crew_resource.specs.Members.{Member}
use Rattle.crew_label.specs.Pools.{AreRising}
use Rattle.crew_label.specs.declared.label.Label.{Label}

-- no value stands in both
abbrev pub AreDistinct : {V : Type 0} → List (Label V) → List (Label V) → Type 0
AreDistinct {V} one two = (l m : Label V) → Member one l → Member two m → l.value ≡ m.value → ⊥

-- there is an element at i, and it is listed before the one at j of the other list, if there is one
pub record ComesFirst {X : Type 0} (cmp : X → X → Ordering) (one : List X) (i : ℕ) (two : List X)
    (j : ℕ) : Type 0 where
  pub there : i < length one
  pub first : (x y : X) → slice_get one i ≡ Some x → slice_get two j ≡ Some y → cmp x y ≡ Less

-- the labels of both lists, in their order
pub record IsMerged {V : Type 0} (cmp : V → V → Ordering) (one two whole : List (Label V)) : Type
    0 where
  pub rises : AreRising cmp whole
  pub from : (l : Label V) → Member whole l → Member one l ⊎ Member two l
  pub with_one : (l : Label V) → Member one l → Member whole l
  pub with_two : (l : Label V) → Member two l → Member whole l

-- all labels of the first list are listed before those of the second
abbrev pub AllBefore : {V : Type 0} → (V → V → Ordering) → List (Label V) → List (Label V) → Type 0
AllBefore {V} cmp ls ms = (l m : Label V) → Member ls l → Member ms m → cmp l.value m.value ≡ Less

-- xs and ys are left, and all labels of both lists before them stand in the whole
pub record IsMerging {V : Type 0} (cmp : V → V → Ordering) (one two xs ys whole : List (Label V))
    : Type 0 where
  pub rises : AreRising cmp whole
  pub rise_xs : AreRising cmp xs
  pub rise_ys : AreRising cmp ys
  pub before_xs : AllBefore cmp whole xs
  pub before_ys : AllBefore cmp whole ys
  pub of_one : (l : Label V) → Member xs l → Member one l
  pub of_two : (l : Label V) → Member ys l → Member two l
  pub from : (l : Label V) → Member whole l → Member one l ⊎ Member two l
  pub with_one : (l : Label V) → Member one l → Member whole l ⊎ Member xs l
  pub with_two : (l : Label V) → Member two l → Member whole l ⊎ Member ys l
