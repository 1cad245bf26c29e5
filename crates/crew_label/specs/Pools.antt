-- Pools of labels: their order, what they leave of candidates, and what their labels have.
use Rattle.std.specs.Prelude.{◌≡◌, ℕ, Bool, List, [], ◌∷◌, ◌++◌, length, map, ℤ, pos}
use Rattle.std.specs.declared.cmp.Ordering.{Ordering}
use Rattle.std.specs.declared.cmp.Ordering.TheVariants.{Less}
use Rattle.crew_resource.specs.Members.{Each, Member}
use Rattle.crew_forgetful.specs.Forgetful.{IsPool, stands}
use Rattle.crew_label.specs.Walks.{Leads, ranks_at_most, shown, walk_of}
use Rattle.crew_label.specs.declared.label.Label.{Label}
use Rattle.crew_label.specs.declared.label.Link.{Link}

-- each label's value is listed before those of all later ones
abbrev pub AreRising : {V : Type 0} → (V → V → Ordering) → List (Label V) → Type 0
AreRising cmp [] = Unit {0}
AreRising cmp (l ∷ ls) = Each (λ m. cmp l.value m.value ≡ Less) ls × AreRising cmp ls

-- one label may stand for another
abbrev pub stands_label : {V : Type 0} → (V → V → Bool) → (V → V → Bool) → (Link → List ℕ)
    → Label V → Label V → Bool
stands_label below same trail a b =
    stands below same ranks_at_most a.value (walk_of trail a.before) b.value
    (walk_of trail b.before)

-- the labels are those candidates for which no other may stand
abbrev pub ArePoolOf : {V : Type 0} → (V → V → Bool) → (V → V → Bool) → (Link → List ℕ)
    → List (V × List ℕ) → List (Label V) → Type 0
ArePoolOf below same trail candidates labels =
    IsPool below same ranks_at_most (λ v w. Member candidates (v, w)) (map (shown trail) labels)

-- each list of labels is the pool of some candidates; all these, one list after another, are given
abbrev pub ArePoolsOf : {V : Type 0} → (V → V → Bool) → (V → V → Bool) → (Link → List ℕ)
    → List (V × List ℕ) → List (List (Label V)) → Type 0
ArePoolsOf below same trail candidates [] = candidates ≡ []
ArePoolsOf {V} below same trail candidates (ls ∷ lss) =
    (firsts : List (V × List ℕ)) × (others : List (V × List ℕ)) × (candidates ≡ firsts ++ others)
    × ArePoolOf below same trail firsts ls × ArePoolsOf below same trail others lss

-- the label's link leads to a label, and its value counts the duties of its walk
pub record IsCounted {V : Type 0} (count : V → ℤ) (leads : Link → Bool) (trail : Link → List ℕ)
    (l : Label V) : Type 0 where
  pub leading : Leads leads l.before
  pub counts : count l.value ≡ pos (length (walk_of trail l.before))

abbrev pub AreCounted : {V : Type 0} → (V → ℤ) → (Link → Bool) → (Link → List ℕ)
    → List (Label V) → Type 0
AreCounted {V} count leads trail labels = (l : Label V) → Member labels l
    → IsCounted count leads trail l
