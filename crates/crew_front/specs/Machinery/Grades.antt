-- Values kept by grade.
use Rattle.std.specs.Prelude.{◌≡◌, ◌⊎◌, ◌≤◌, ℕ, Bool, false, List, [], ◌∷◌}
use Rattle.crew_resource.specs.Members.{Member}

-- the grades do not fall along the list
abbrev pub AreRising : {X : Type 0} → (X → ℕ) → List X → Type 0
AreRising grade [] = Unit {0}
AreRising {X} grade (x ∷ xs) = ((y : X) → Member xs y → grade x ≤ grade y) × AreRising grade xs

-- each has the grade of its value
abbrev pub AreGraded : {X V : Type 0} → (X → ℕ) → (X → V) → (V → ℕ) → List X → Type 0
AreGraded {X} grade value grade_of xs = (x : X) → Member xs x → grade x ≡ grade_of (value x)

-- both lists have the same elements
pub record HoldSame {X : Type 0} (xs ys : List X) : Type 0 where
  pub forth : (x : X) → Member xs x → Member ys x
  pub back : (x : X) → Member ys x → Member xs x

-- the new values are this one, and the old ones that it is not at most
pub record Admitted {V : Type 0} (below : V → V → Bool) (value : V) (old new : List V) : Type
    0 where
  pub joins : Member new value
  pub stays : (w : V) → Member old w → below value w ≡ false → Member new w
  pub among : (w : V) → Member new w → (value ≡ w) ⊎ (Member old w × (below value w ≡ false))
