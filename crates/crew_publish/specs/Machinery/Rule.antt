-- The rule over what is shown and what each seat knows. A seat knows lists of versions, the last
-- one that it saw first.
use Rattle.std.specs.Prelude.{◌≡◌, ℕ, List, [], ◌∷◌, ◌++◌, true}
use mathlib.Core.Option.{some}
use mathlib.Core.List.{IsPrefix}
use lib.ListN.{get_elem?}
use Rattle.std.specs.Arc.{arc_value}
use Rattle.crew_version.specs.Versions.{Snapshot}
use Rattle.crew_publish.specs.declared.shown.Shown.{Shown}
use Rattle.crew_publish.specs.Chain.{Ends, Follows}
use Rattle.crew_resource.specs.Chains.{IsChain}

-- each of these lists begins the whole
abbrev pub AllBegin : List (List Snapshot) → List Snapshot → Type 0
AllBegin [] whole = Unit {0}
AllBegin (l ∷ ls) whole = IsPrefix l whole × AllBegin ls whole

-- the published list is a chain that ends with what is shown, and begins with each list that a seat
-- knows
abbrev pub Kept : Shown → List (List (List Snapshot)) → Type 0
Kept x views =
    (all : List Snapshot) × IsChain Follows all × Ends all (arc_value x.version)
    × (x.opening ≡ true → all ≡ arc_value x.version ∷ [])
    × ((seat : ℕ) (v : List (List Snapshot)) → get_elem? views seat ≡ some v → AllBegin v all)

-- a look: one more list is known, which is a chain, ends with what is shown, and begins with all
-- that was known
abbrev pub Seen : List (List Snapshot) → Shown → Shown → List (List Snapshot) → Type 0
Seen v x y w =
    (l : List Snapshot) × (w ≡ l ∷ v) × IsChain Follows l × Ends l (arc_value y.version) × AllBegin v l

-- the publisher's list, which is the version shown while it knows none
abbrev pub list_of : List (List Snapshot) → Snapshot → List Snapshot
list_of [] first = first ∷ []
list_of (l ∷ ls) first = l

-- the list that a seat saw last
abbrev pub seen_by : List (List Snapshot) → List Snapshot
seen_by [] = []
seen_by (l ∷ ls) = l

-- a publication adds what is shown from then on
abbrev pub Added : List (List Snapshot) → Shown → Shown → List (List Snapshot) → Type 0
Added v x y w = w ≡ (list_of v (arc_value x.version) ++ arc_value y.version ∷ []) ∷ []

-- the writer's seat knows nothing while nothing was published, and else one chain that ends with
-- what is shown
abbrev pub IsHeld : List (List Snapshot) → Shown → Type 0
IsHeld [] x = x.opening ≡ true
IsHeld (l ∷ ls) x = (ls ≡ []) × IsChain Follows l × Ends l (arc_value x.version)

-- the same is shown again, and the writer's seat knows the list
abbrev pub Opened : List (List Snapshot) → Shown → Shown → List (List Snapshot) → Type 0
Opened v x y w = w ≡ list_of v (arc_value x.version) ∷ []
