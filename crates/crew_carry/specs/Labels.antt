-- Labels that are carried one by one.
use Rattle.std.specs.Prelude.{◌≡◌, ◌<◌, ℕ, List, [], ◌∷◌, Option, length}
use Rattle.crew_carry.specs.Carried.{AreTwinWalks}
use Rattle.crew_pool.specs.Arena.{walk_at}
use Rattle.crew_pool.specs.LabelWalks.{duty_of}
use Rattle.crew_pool.specs.declared.label_walk.LabelWalk.{LabelWalk}

-- the same vector, at the walk's twin, with the twin of the duty after it, or none
pub record IsCarriedLabel {V : Type 0} (ranks : List (Option ℕ)) (from to : List (List ℕ))
    (old new : V × LabelWalk) : Type 0 where
  pub value : new.0 ≡ old.0
  pub there : new.1.walk < length to
  pub duty : AreTwinWalks ranks (duty_of old.1.duty) (duty_of new.1.duty)
  pub walk : AreTwinWalks ranks (walk_at from old.1.walk) (walk_at to new.1.walk)

abbrev pub AreCarriedLabels : {V : Type 0} → List (Option ℕ) → List (List ℕ) → List (List ℕ)
    → List (V × LabelWalk) → List (V × LabelWalk) → Type 0
AreCarriedLabels ranks from to [] [] = Unit {0}
AreCarriedLabels ranks from to [] (n ∷ ns) = ⊥
AreCarriedLabels ranks from to (o ∷ os) [] = ⊥
AreCarriedLabels ranks from to (o ∷ os) (n ∷ ns) = IsCarriedLabel ranks from to o n
    × AreCarriedLabels ranks from to os ns
