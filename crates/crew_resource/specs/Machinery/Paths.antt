-- Walks over items, each of which may stand just before the next, with the value that a resource
-- gives the whole list.
use Rattle.std.specs.Prelude.{◌≡◌, Bool, true, List, [], ◌∷◌, ◌++◌, map, Option, Some}
use Rattle.crew_resource.specs.Members.{Member}
use Rattle.crew_resource.specs.Labels.{Undominated}

-- each item may stand just before the next one
abbrev pub LinkedFrom : {I : Type 0} → (I → I → Bool) → I → List I → Type 0
LinkedFrom may_follow x [] = Unit {0}
LinkedFrom may_follow x (y ∷ ys) = (may_follow x y ≡ true) × LinkedFrom may_follow y ys

abbrev pub Linked : {I : Type 0} → (I → I → Bool) → List I → Type 0
Linked may_follow [] = Unit {0}
Linked may_follow (x ∷ xs) = LinkedFrom may_follow x xs

-- there is a first item, and it may be first
abbrev pub Begins : {I : Type 0} → (I → Bool) → List I → Type 0
Begins may_start [] = ⊥
Begins may_start (x ∷ xs) = may_start x ≡ true

-- the items before d, then d: a legal list that ends with d, with this value and this walk
pub record PathTo {I V K : Type 0} (key : I → K) (known : List I) (may_start : I → Bool)
    (may_follow : I → I → Bool) (value_of : List I → Option V) (d : I) (v : V) (w : List K) : Type
    0 where
  pub before : List I
  pub walk : w ≡ map key (before ++ d ∷ [])
  pub begins : Begins may_start (before ++ d ∷ [])
  pub linked : Linked may_follow (before ++ d ∷ [])
  pub are_known : (x : I) → Member before x → Member known x
  pub value : value_of (before ++ d ∷ []) ≡ Some v

-- such a list each of whose beginnings has a value that is undominated at its own last item
pub record CleanPathTo {I V K : Type 0} (le : V → V → Bool) (key : I → K) (known : List I)
    (may_start : I → Bool) (may_follow : I → I → Bool) (value_of : List I → Option V) (d : I)
    (v : V) (w : List K) : Type 0 where
  pub path : PathTo key known may_start may_follow value_of d v w
  pub clean : (bs : List I) (e : I) (rest : List I) (u : V)
      → bs ++ e ∷ rest ≡ path.before ++ d ∷ [] → value_of (bs ++ e ∷ []) ≡ Some u
      → Undominated le (PathTo key known may_start may_follow value_of e) u
