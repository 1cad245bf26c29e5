-- The pairing of a label that is shown.
use Rattle.std.proofs.Common.{◌≡◌, ◌∙◌, ℕ, ℤ, ap, sym, subst}
use Rattle.crew_anchor.specs.Anchors.{shown}
use Rattle.crew_anchor.specs.declared.resource.AnchoredResource.{AnchoredResource}
use Rattle.crew_pairing.specs.declared.vector.PairingVector.{PairingVector}
use Rattle.crew_pool.specs.declared.label_walk.LabelWalk.{LabelWalk}
use Rattle.crew_solve.specs.Machinery.Homes.{HasPay, IsShowable, pairing_at, priced, resource_of, walk_by_key}
use Rattle.crew_sweep.specs.Sweeps.{BaseSweep}
use Rattle.crew_vector.specs.declared.priced.PricedPairing.{PricedPairing}

pub shown-as : (b : BaseSweep) (r : AnchoredResource) (m n : ℤ) (v u : PairingVector) → u ≡ shown r.trip_rig m v → r ≡ resource_of b → m ≡ n → u ≡ shown b.net.settings.trip_rig n v
shown-as b r m n v u e f g = e ∙ (ap (λ (x : AnchoredResource). shown x.trip_rig m v) f ∙ ap (λ k. shown b.net.settings.trip_rig k v) g)

pub has-pay : (b : BaseSweep) (minute : ℤ) (l : PairingVector × LabelWalk) (rate : ℕ) (u : PairingVector) → IsShowable b minute l.0 → rate ≡ b.net.settings.trip_rig → u ≡ shown b.net.settings.trip_rig minute l.0 → HasPay rate u
has-pay b minute l rate u k e f = subst (λ r. HasPay r u) (sym e) (subst (HasPay b.net.settings.trip_rig) (sym f) k.pay)

pub paired : (b : BaseSweep) (minute : ℤ) (l : PairingVector × LabelWalk) (rate : ℕ) (u : PairingVector) (p : PricedPairing) → p ≡ priced rate b.base u (walk_by_key b l.1)
    → rate ≡ b.net.settings.trip_rig → u ≡ shown b.net.settings.trip_rig minute l.0 → p ≡ pairing_at b minute l
paired b minute l rate u p e f g = e ∙ (ap (λ r. priced r b.base u (walk_by_key b l.1)) f ∙ ap (λ v. priced b.net.settings.trip_rig b.base v (walk_by_key b l.1)) g)
