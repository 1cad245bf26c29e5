-- The candidates of a job as a list: the opening, and then what extends each entry of the feed.
use Rattle.std.specs.Prelude.{ℕ, cond, List, [], ◌∷◌, ◌++◌, Option}
use Rattle.std.specs.List.{flat_map}
use Rattle.std.specs.Ordering.{eq_by_cmp}
use Rattle.crew_flights.specs.Codes.{code_cmp}
use Rattle.crew_pairing.specs.Legs.{Leg}
use Rattle.crew_pairing.specs.declared.duty.Duty.{Duty}
use Rattle.crew_resource.specs.Events.{labelled}

-- the value of the duty alone, where the duty leaves the base
abbrev pub openings : {V : Type 0} → (Duty → Option V) → List ℕ → Duty → List (V × List (List Leg))
openings opens base d = cond (eq_by_cmp code_cmp d.from base)
    (labelled (opens d) (d.key ∷ [])) []

-- an entry with one more duty
abbrev pub extension : {V : Type 0} → (V → Duty → Duty → Option V) → Duty → Duty
    → V × List (List Leg) → List (V × List (List Leg))
extension extends last next entry = labelled (extends entry.0 last next) (entry.1 ++ next.key ∷ [])

-- the entries of a front with one more duty
abbrev pub extensions : {V : Type 0} → (V → Duty → Duty → Option V) → Duty
    → Duty × List (V × List (List Leg)) → List (V × List (List Leg))
extensions extends next before = flat_map (extension extends before.0 next) before.1

abbrev pub all_extensions : {V : Type 0} → (V → Duty → Duty → Option V) → Duty
    → List (Duty × List (V × List (List Leg))) → List (V × List (List Leg))
all_extensions extends next feed = flat_map (extensions extends next) feed
