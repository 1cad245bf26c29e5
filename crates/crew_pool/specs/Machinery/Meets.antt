-- Which labels of a list a pool leaves free.
use Rattle.std.specs.Prelude.{Bool, List, not, map}
use Rattle.std.specs.List.{list_any}
use Rattle.crew_pool.specs.declared.label_walk.LabelWalk.{LabelWalk}

-- no vector of the pool is at most the label's
abbrev pub is_free : {V : Type 0} → (V → V → Bool) → List V → V × LabelWalk → Bool
is_free below vectors l = not (list_any (λ u. below u l.0) vectors)

-- the vectors of labels
abbrev pub vectors_of : {V : Type 0} → List (V × LabelWalk) → List V
vectors_of labels = map (λ l. l.0) labels
