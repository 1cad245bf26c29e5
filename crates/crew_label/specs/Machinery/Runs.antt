-- Labels of which those with the same sums stand together.
use Rattle.std.specs.Prelude.{◌≡◌, ◌⊎◌, ◌≤◌, ℕ, Bool, true, false, cond, List, [], ◌∷◌, length, map, take, Option, None, Some, slice_get}
use Rattle.std.specs.declared.cmp.Ordering.{Ordering}
use Rattle.std.specs.declared.cmp.Ordering.TheVariants.{Less}
use Rattle.crew_resource.specs.Members.{Member}
use Rattle.crew_forgetful.specs.Machinery.Sums.{is_same}
use Rattle.crew_label.specs.Pools.{ArePoolOf, AreRising}
use Rattle.crew_label.specs.Walks.{shown}
use Rattle.crew_label.specs.declared.label.Label.{Label}
use Rattle.crew_label.specs.declared.label.Link.{Link}

-- boarding for the values of which something lapses, or for those of which nothing does
abbrev pub boards_where : {V : Type 0} → Bool → (V → Bool) → (V → Option V) → V → Option V
boards_where true lapses board v = cond (lapses v) (board v) None
boards_where false lapses board v = cond (lapses v) None (board v)

-- a stands in the list, and b further on
abbrev pub InTurn : {X : Type 0} → List X → X → X → Type 0
InTurn [] a b = ⊥
InTurn (x ∷ xs) a b = ((x ≡ a) × Member xs b) ⊎ InTurn xs a b

-- and c still further on
abbrev pub ThreeInTurn : {X : Type 0} → List X → X → X → X → Type 0
ThreeInTurn [] a b c = ⊥
ThreeInTurn (x ∷ xs) a b c = ((x ≡ a) × InTurn xs b c) ⊎ ThreeInTurn xs a b c

-- labels with the same sums stand together; where sums differ, the values rise, and none is at most
-- the other
pub record AreRuns {V : Type 0} (cmp : V → V → Ordering) (below same : V → V → Bool)
    (labels : List (Label V)) : Type 0 where
  pub together : (a b c : Label V) → ThreeInTurn labels a b c → same a.value c.value ≡ true
      → same a.value b.value ≡ true
  pub rise : (a b : Label V) → InTurn labels a b → same a.value b.value ≡ false
      → cmp a.value b.value ≡ Less
  pub apart : (a b : Label V) → Member labels a → Member labels b
      → below a.value b.value ≡ true → same a.value b.value ≡ true

-- so many labels from the first on have the same sums as it, and the next one, if there is one, has
-- others
pub record IsRun {V : Type 0} (same : V → V → Bool) (labels : List (Label V)) (len : ℕ) : Type
    0 where
  pub within : len ≤ length labels
  pub alike : (x l : Label V) → slice_get labels 0 ≡ Some x → Member (take len labels) l
      → same x.value l.value ≡ true
  pub ends : (x l : Label V) → slice_get labels 0 ≡ Some x → slice_get labels len ≡ Some l
      → same x.value l.value ≡ false

-- what dominance by values leaves of labels, in the order of their values
pub record IsFrontOf {V : Type 0} (cmp : V → V → Ordering) (below : V → V → Bool)
    (trail : Link → List ℕ) (labels front : List (Label V)) : Type 0 where
  pub rises : AreRising cmp front
  pub pool : ArePoolOf below (is_same below) trail (map (shown trail) labels) front
  pub from : (l : Label V) → Member front l → Member labels l
