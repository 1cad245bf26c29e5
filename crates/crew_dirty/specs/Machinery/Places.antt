-- Where a node stands in a network.
use Rattle.std.specs.Prelude.{◌≡◌, Some, slice_get}
use Rattle.crew_dirty.specs.declared.node_places.NodePlace.{NodePlace}
use Rattle.crew_net.specs.Nets.{IsRank, Net}
use Rattle.crew_net.specs.declared.node.Node.{Node}

-- the rank is that of its duty, and its base stands at the place
pub record IsPlaceOf (net : Net) (node : Node) (place : NodePlace) : Type 0 where
  pub is_rank : IsRank net node (Some place.rank)
  pub is_base : slice_get net.bases place.base ≡ Some node.base
