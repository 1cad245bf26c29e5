-- Duties by rank: their places in the list of all legal duties, which rises by key.
use Rattle.std.specs.Prelude.{ℕ, ◌<◌, List, [], get_or, map}
use Rattle.crew_pairing.specs.Legs.{Leg}
use Rattle.crew_resource.specs.Members.{Each, Member}
use Rattle.crew_pairing.specs.declared.duty.Duty.{Duty}

-- the key of the duty of a rank
abbrev pub key_at : List Duty → ℕ → List Leg
key_at duties rank = get_or (map (λ d. d.key) duties) rank []

-- each duty of each walk has a rank below the count
abbrev pub AreRanked : {V : Type 0} → ℕ → List (V × List ℕ) → Type 0
AreRanked {V} count entries = (e : V × List ℕ) → Member entries e → Each (λ rank. rank < count) e.1

-- entries with the keys of their walks' duties in place of the ranks
abbrev pub by_key : {V : Type 0} → List Duty → List (V × List ℕ) → List (V × List (List Leg))
by_key duties entries = map (λ e. (e.0, map (key_at duties) e.1)) entries
