-- What is known of pools without going over them.
use Rattle.std.specs.Prelude.{◌≡◌, ◌≤ℤ◌, ℕ, ℤ, List, [], Some, get_or, length, slice_get}
use Rattle.crew_carry.specs.Spans.{AreWithin}
use Rattle.crew_pairing.specs.declared.vector.PairingVector.{PairingVector}
use Rattle.crew_pool.specs.declared.label_walk.LabelWalk.{LabelWalk}
use Rattle.crew_resource.specs.Members.{Member}
use Rattle.crew_sweep.specs.declared.digest.Digest.{Digest}

-- no label has less duty pay
abbrev pub IsFloor : ℤ → List (PairingVector × LabelWalk) → Type 0
IsFloor floor labels = (l : PairingVector × LabelWalk) → Member labels l → floor ≤ℤ l.0.duty_pay

-- no label has less duty pay, and their walks stand within the span
pub record IsDigest (d : Digest) (labels : List (PairingVector × LabelWalk)) : Type 0 where
  pub floor : IsFloor d.floor labels
  pub span : AreWithin d.span labels

-- pool by pool
pub record AreDigests (digests : List Digest) (pools : List (List (PairingVector × LabelWalk))) :
    Type 0 where
  pub long : length digests ≡ length pools
  pub each : (place : ℕ) (d : Digest) → slice_get digests place ≡ Some d
      → IsDigest d (get_or pools place [])
