-- The entries that a list of candidates leaves.
use Rattle.std.specs.Prelude.{Bool, List}
use Rattle.crew_resource.specs.Members.{Member}
use Rattle.crew_resource.specs.Labels.{IsLocal}
use Rattle.crew_pairing.specs.Legs.{Leg}
use Rattle.crew_pairing.specs.Keys.{walk_at_most}

-- the entries are the undominated ones of the candidates, each vector with its least walk
abbrev pub IsLocalOf : {V : Type 0} → (V → V → Bool) → List (V × List (List Leg))
    → List (V × List (List Leg)) → Type 0
IsLocalOf below candidates entries = IsLocal below walk_at_most (λ v w. Member candidates (v, w))
    entries
