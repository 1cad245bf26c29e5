-- The layers of a network: the layer of a node is the length of the longest list of arcs that ends
-- there. Arcs depend on the duties alone, so it is the layer of the node's duty.
use Rattle.std.specs.Prelude.{◌≡◌, ◌<◌, ◌≤◌, ℕ, true, List, ◌∷◌, Some, get_or, length, slice_get}
use Rattle.crew_net.specs.Nets.{Net}
use Rattle.crew_pairing.specs.Pairings.{AllRested, last_duty, may_stand_after}
use Rattle.crew_pairing.specs.declared.duty.Duty.{Duty}
use Rattle.crew_resource.specs.Members.{Each, Member}

-- duties of the network, each of which may stand just after the one before; an arc to each of the
-- others
pub record IsPath (net : Net) (first : Duty) (others : List Duty) (last : Duty) : Type 0 where
  pub duties : Each (Member net.duties) (first ∷ others)
  pub rested : AllRested net.settings first others
  pub ends : last_duty first others ≡ last

-- the most arcs that end at a duty in a row
pub record IsLayer (net : Net) (d : Duty) (layer : ℕ) : Type 0 where
  pub most : (first : Duty) (others : List Duty) → IsPath net first others d
      → length others ≤ layer
  pub some : (first : Duty) × (others : List Duty) × IsPath net first others d
      × (length others ≡ layer)

-- the layer of each duty, by rank; it rises along each arc
pub record AreLayers (net : Net) (layers : List ℕ) : Type 0 where
  pub long : length layers ≡ length net.duties
  pub exact : (rank : ℕ) (d : Duty) → slice_get net.duties rank ≡ Some d
      → IsLayer net d (get_or layers rank 0)
  pub rising : (i j : ℕ) (before next : Duty) → slice_get net.duties i ≡ Some before
      → slice_get net.duties j ≡ Some next → may_stand_after net.settings before next ≡ true
      → get_or layers i 0 < get_or layers j 0
