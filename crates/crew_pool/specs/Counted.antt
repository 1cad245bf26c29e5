-- Labels whose vectors tell how many duties their walks have.
use Rattle.std.specs.Prelude.{◌≡◌, ℕ, ◌<◌, Bool, List, length, nat_eq, true, Option, ℤ, pos}
use Rattle.std.specs.List.{flat_map}
use Rattle.crew_resource.specs.Events.{labelled}
use Rattle.crew_resource.specs.Members.{Member}
use Rattle.crew_pool.specs.LabelWalks.{walk_of_label}
use Rattle.crew_pool.specs.declared.label_walk.LabelWalk.{LabelWalk}

-- the label's walk is there, stands whole or has a duty after it, and has as many duties as its
-- vector counts
pub record IsCounted {V : Type 0} (count : V → ℤ) (walks : List (List ℕ)) (whole : Bool)
    (l : V × LabelWalk) : Type 0 where
  pub there : l.1.walk < length walks
  pub stands : nat_eq l.1.duty 4294967295 ≡ whole
  pub counts : count l.0 ≡ pos (length (walk_of_label walks l.1))

abbrev pub AreCounted : {V : Type 0} → (V → ℤ) → List (List ℕ) → Bool → List (V × LabelWalk)
    → Type 0
AreCounted {V} count walks whole labels = (l : V × LabelWalk) → Member labels l
    → IsCounted count walks whole l

-- the labels stand whole: no duty comes after a label's walk
abbrev pub AreWhole : {V : Type 0} → List (V × LabelWalk) → Type 0
AreWhole {V} labels = (l : V × LabelWalk) → Member labels l → nat_eq l.1.duty 4294967295 ≡ true

-- a label after boarding a duty, if it boards
abbrev pub boarded_label : {V : Type 0} → (V → Option V) → ℕ → V × LabelWalk → List (V × LabelWalk)
boarded_label board duty l = labelled (board l.0) (record { walk = l.1.walk; duty = duty })

-- the labels of a list that board, after it
abbrev pub boarded_labels : {V : Type 0} → (V → Option V) → ℕ → List (V × LabelWalk)
    → List (V × LabelWalk)
boarded_labels board duty labels = flat_map (boarded_label board duty) labels
