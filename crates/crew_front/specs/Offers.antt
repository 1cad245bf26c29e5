-- What an offer answers, and what it leaves.
use Rattle.std.specs.Prelude.{◌≡◌, ◌≢◌, ℕ, Bool, true, false, not, List, Some, slice_get, slice_set}
use Rattle.std.specs.List.{All, Any, filter}
use Rattle.std.specs.Ordering.{is_lt}
use Rattle.std.specs.declared.cmp.Ordering.{Ordering}
use Rattle.crew_pairing.specs.Legs.{Leg}
use Rattle.crew_front.specs.declared.front.Offer.{Offer}
use Rattle.crew_front.specs.declared.front.Offer.TheVariants.{Kept, Beaten, Tied}
use Rattle.crew_front.specs.Walks.{lesser}
use Rattle.crew_resource.specs.Entries.{placed}

abbrev pub Offered : {V : Type 0} → (V → V → Bool) → (V → V → Ordering)
    → List (V × List (List Leg)) → V → List (List Leg) → List (V × List (List Leg)) → Offer → Type 0
-- an entry beats the vector, and nothing changes
Offered below cmp old vector walk new Beaten =
    Any (λ e. (below e.0 vector ≡ true) × (e.0 ≢ vector)) old × (new ≡ old)
-- the vector is there, and the lesser walk stays
Offered below cmp old vector walk new Tied =
    (i : ℕ) × (was : List (List Leg)) × (slice_get old i ≡ Some (vector, was))
    × (new ≡ slice_set old i (vector, lesser was walk))
-- no entry is at most the vector: those that it beats go, and it joins
Offered below cmp old vector walk new Kept =
    All (λ e. below e.0 vector ≡ false) old
    × (new ≡ placed (λ e. is_lt (cmp vector e.0)) (vector, walk)
    (filter (λ e. not (below vector e.0)) old))
