-- Labels of a sweep's pools with the keys of their walks.
use Rattle.std.specs.Prelude.{◌<◌, List, length}
use Rattle.crew_pairing.specs.Legs.{Leg}
use Rattle.crew_pairing.specs.declared.vector.PairingVector.{PairingVector}
use Rattle.crew_pool.specs.LabelWalks.{walk_of_label}
use Rattle.crew_pool.specs.declared.label_walk.LabelWalk.{LabelWalk}
use Rattle.crew_resource.specs.Members.{Each, Member}
use Rattle.crew_solve.specs.Machinery.Homes.{walk_by_key}
use Rattle.crew_sweep.specs.Sweeps.{BaseSweep}

-- a label as of the common instant, and its walk by key
abbrev pub keyed_label : BaseSweep → PairingVector × LabelWalk → PairingVector × List (List Leg)
keyed_label b l = (l.0, walk_by_key b l.1)

-- their walks are there, of duties that have ranks
abbrev pub AreReadable : BaseSweep → List (PairingVector × LabelWalk) → Type 0
AreReadable b labels = (l : PairingVector × LabelWalk) → Member labels l
    → (l.1.walk < length b.walks)
    × Each (λ rank. rank < length b.net.duties) (walk_of_label b.walks l.1)
