-- What a sweep keeps of its labels.
use Rattle.std.specs.Prelude.{◌≡◌, ◌≤◌, ◌-◌, ℕ, true, List, length, map}
use Rattle.crew_anchor.specs.Machinery.Bounds.{fits_in, is_ready}
use Rattle.crew_anchor.specs.Stages.{anchored_resource}
use Rattle.crew_anchor.specs.declared.resource.AnchoredResource.{AnchoredResource}
use Rattle.crew_pairing.specs.Events.{IsSound}
use Rattle.crew_pairing.specs.Legs.{Leg}
use Rattle.crew_pairing.specs.declared.duty.Duty.{Duty}
use Rattle.crew_pairing.specs.declared.vector.PairingVector.{PairingVector}
use Rattle.crew_pool.specs.Counted.{AreCounted}
use Rattle.crew_pool.specs.LabelWalks.{shown}
use Rattle.crew_pool.specs.Ranks.{AreRanked}
use Rattle.crew_pool.specs.declared.label_walk.LabelWalk.{LabelWalk}
use Rattle.crew_resource.specs.Machinery.Uses.{HasRoom}
use Rattle.crew_resource.specs.Members.{Member}
use Rattle.crew_sweep.specs.Machinery.Numbered.{AreLocal}
use Rattle.crew_sweep.specs.Machinery.Passing.{AreLabels, passed_network}
use Rattle.crew_sweep.specs.Sweeps.{BaseSweep, keyed}

-- their walks stand whole, of duties that have ranks, with as many as the vectors count; and what
-- boards fits
pub record AreKept (r : AnchoredResource) (count : ℕ) (walks : List (List ℕ))
    (labels : List (PairingVector × LabelWalk)) : Type 0 where
  pub counts : AreCounted (λ (v : PairingVector). v.duties) walks true labels
  pub ranked : AreRanked count (map (shown walks) labels)
  pub ready : (l : PairingVector × LabelWalk) → Member labels l
      → HasRoom (fits_in r) (is_ready r) l.0

-- the resource with a duty to spare
abbrev pub sparing_of : BaseSweep → AnchoredResource
sparing_of b = record (anchored_resource b.net.settings b.price) {
  max_duties = b.net.settings.max_duties - 1;
}

-- the labels of each pool by key
abbrev pub keyed_pools : BaseSweep → List (List (PairingVector × List (List Leg)))
keyed_pools b = map (keyed b.net b.walks) b.pools

pub record IsKept (b : BaseSweep) (r : AnchoredResource) : Type 0 where
  pub resource : r ≡ anchored_resource b.net.settings b.price
  pub sound : (d : Duty) → Member b.net.duties d → IsSound d
  pub few : length b.net.duties ≤ 200_000
  pub long : length b.pools ≡ length b.net.by_report
  pub labels : (labels : List (PairingVector × LabelWalk)) → Member b.pools labels
      → AreKept r (length b.net.duties) b.walks labels
  pub local : AreLocal (passed_network b.net b.base (sparing_of b)) (length b.pools)
      (keyed_pools b)
  pub spared : (labels : List (PairingVector × LabelWalk)) → Member b.pools labels
      → AreLabels (sparing_of b) (length b.net.duties) b.walks labels
