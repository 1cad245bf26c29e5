-- Entries of a sweep's front as a list that their set alone tells: by vector, then by walk, each
-- once.
use Rattle.std.specs.Prelude.{List, [], ◌∷◌}
use Rattle.std.specs.Ordering.{ordering_then}
use Rattle.std.specs.declared.cmp.Ordering.{Ordering}
use Rattle.std.specs.declared.cmp.Ordering.TheVariants.{Less, Equal, Greater}
use Rattle.crew_pairing.specs.Keys.{walk_cmp}
use Rattle.crew_pairing.specs.Legs.{Leg}
use Rattle.crew_pairing.specs.declared.vector.PairingVector.{PairingVector}
use Rattle.crew_solve.specs.crew_vector.Fronts.{vector_cmp}

abbrev pub Entry : Type 0
Entry = PairingVector × List (List Leg)

-- by vector, then by walk
abbrev pub entry_cmp : Entry → Entry → Ordering
entry_cmp e f = ordering_then (vector_cmp e.0 f.0) (walk_cmp e.1 f.1)

abbrev pub one_of : {X : Type 0} → Ordering → X → X → X → X
one_of Less less equal greater = less
one_of Equal less equal greater = equal
one_of Greater less equal greater = greater

-- an entry put before the first that comes after it, or left out where it stands there
abbrev pub put : Entry → List Entry → List Entry
put e [] = e ∷ []
put e (f ∷ fs) = one_of (entry_cmp e f) (e ∷ f ∷ fs) (f ∷ fs) (f ∷ put e fs)

abbrev pub listed : List Entry → List Entry
listed [] = []
listed (e ∷ es) = put e (listed es)
