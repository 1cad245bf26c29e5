-- What a sweep keeps of each of its pools.
use Rattle.std.proofs.Common.{◌≡◌, ◌<◌, ℕ, List, [], get_or, length, sym, subst}
use Rattle.crew_anchor.specs.Stages.{anchored_resource}
use Rattle.crew_anchor.specs.declared.resource.AnchoredResource.{AnchoredResource}
use Rattle.crew_pairing.specs.declared.vector.PairingVector.{PairingVector}
use Rattle.crew_pool.specs.declared.label_walk.LabelWalk.{LabelWalk}
use Rattle.crew_resource.specs.Members.{Member}
use Rattle.crew_resource.proofs.Members.{Member-get}
use Rattle.crew_sweep.specs.Machinery.Kept.{AreKept, IsKept}
use Rattle.crew_sweep.specs.Sweeps.{BaseSweep}

-- a pool keeps what all do
pub kept-at : (b : BaseSweep) (r : AnchoredResource) → IsKept b r → (index : ℕ) (labels : List (PairingVector × LabelWalk)) → index < length b.net.by_report → labels ≡ get_or b.pools index []
    → AreKept (anchored_resource b.net.settings b.price) (length b.net.duties) b.walks labels
kept-at b r k index labels within same =
    let m = subst (Member b.pools) (sym same) (Member-get b.pools index [] (subst (λ n. index < n) (sym k.long) within)) in
    subst (λ (x : AnchoredResource). AreKept x (length b.net.duties) b.walks labels) k.resource (k.labels labels m)
