-- What pools at events are made from. Labels wait from arrivals to a departure, and board there.
-- They stand as of a common instant, so waiting changes no vector.
use Rattle.std.specs.Prelude.{ℕ, get_or, List, [], ◌∷◌, ◌++◌, Option, Some, None, map, slice_get}
use Rattle.std.specs.List.{flat_map}
use Rattle.crew_pool.specs.LabelWalks.{shown}
use Rattle.crew_pool.specs.declared.label_walk.LabelWalk.{LabelWalk}
use Rattle.crew_resource.specs.Events.{labelled}

-- what waits for a departure: the labels of its arrivals, and the empty label where it has one
abbrev pub waiting : {V : Type 0} → List (List ℕ) → List (List (V × LabelWalk)) → Option V
    → List (V × List ℕ)
waiting walks arrivals idle = flat_map (map (shown walks)) arrivals ++ labelled idle []

-- the labels that board the item of a rank, each a rank longer
abbrev pub boarding : {I V : Type 0} → (V → I → Option V) → Option I → ℕ → List (V × List ℕ)
    → List (V × List ℕ)
boarding board None rank labels = []
boarding board (Some item) rank labels =
    flat_map (λ l. labelled (board l.0 item) (l.1 ++ rank ∷ [])) labels

-- what boards the items of some ranks, each from the pool at its position
abbrev pub boarded : {I V : Type 0} → List (List ℕ) → (V → I → Option V) → List I → List ℕ
    → List (List (V × LabelWalk)) → List ℕ → List (V × List ℕ)
boarded walks board items positions pools ranks =
    flat_map (λ rank. boarding board (slice_get items rank) rank
    (map (shown walks) (get_or pools (get_or positions rank 0) []))) ranks
