-- Pools of some that stand in a row.
use Rattle.std.specs.Prelude.{◌≡◌, ◌≤◌, ◌<◌, ◌-◌, ℕ, false, List, [], Some, get_or, map, slice_get}
use Rattle.crew_pairing.specs.declared.vector.PairingVector.{PairingVector}
use Rattle.crew_pool.specs.Counted.{AreCounted}
use Rattle.crew_pool.specs.LabelWalks.{IsPoolOf, ranks_at_most, shown}
use Rattle.crew_pool.specs.declared.label_walk.LabelWalk.{LabelWalk}
use Rattle.crew_resource.specs.Labels.{IsLocal}
use Rattle.crew_resource.specs.Members.{Member}
use Rattle.crew_vector.specs.Dominance.{is_at_most}

-- each of the row is a pool, whose walks have a duty after them and are as long as the vectors count
pub record AreHeld (walks : List (List ℕ)) (held : List (List (PairingVector × LabelWalk))) :
    Type 0 where
  pub settled : (labels : List (PairingVector × LabelWalk)) → Member held labels
      → IsPoolOf is_at_most (map (shown walks) labels) (map (shown walks) labels)
  pub pending : (labels : List (PairingVector × LabelWalk)) → Member held labels
      → AreCounted (λ (v : PairingVector). v.duties) walks false labels

-- what stands from one place of the row up to another
abbrev pub Within : List (List ℕ) → List (List (PairingVector × LabelWalk)) → ℕ → ℕ
    → PairingVector → List ℕ → Type 0
Within walks held from end v w = (place : ℕ) × (from ≤ place) × (place < end)
    × Member (map (shown walks) (get_or held place [])) (v, w)

-- the pool of what stands from one place up to another
pub record IsPart (walks : List (List ℕ)) (held : List (List (PairingVector × LabelWalk)))
    (from end : ℕ) (labels : List (PairingVector × LabelWalk)) : Type 0 where
  pub local : IsLocal is_at_most ranks_at_most (Within walks held from end)
      (map (shown walks) labels)
  pub counts : AreCounted (λ (v : PairingVector). v.duties) walks false labels

-- the pools from each place up to an end, the nearest first, the pool of no place before all
pub record AreSuffixes (walks : List (List ℕ)) (held : List (List (PairingVector × LabelWalk)))
    (end : ℕ) (pools : List (List (PairingVector × LabelWalk))) : Type 0 where
  pub reach : (i : ℕ) (labels : List (PairingVector × LabelWalk))
      → slice_get pools i ≡ Some labels → i ≤ end
  pub parts : (i : ℕ) (labels : List (PairingVector × LabelWalk))
      → slice_get pools i ≡ Some labels → IsPart walks held (end - i) end labels
