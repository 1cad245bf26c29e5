-- How far the parts of an anchored vector reach.
use Rattle.std.specs.Prelude.{ℕ, suc, ◌+◌, ◌*◌, ◌^◌, ◌<◌, unsigned_abs}
use Rattle.crew_pairing.specs.Events.{IsSound}
use Rattle.crew_pairing.specs.declared.duty.Duty.{Duty}
use Rattle.crew_resource.specs.Machinery.Sum.{LiesWithin}
use Rattle.crew_pairing.specs.declared.vector.PairingVector.{PairingVector}
use Rattle.crew_anchor.specs.declared.resource.AnchoredResource.{AnchoredResource}

-- no part lies further from nothing
pub record AreWithin (reach : ℕ) (v : PairingVector) : Type 0 where
  pub duty_pay : LiesWithin reach v.duty_pay
  pub trip_rig : LiesWithin reach v.trip_rig
  pub guarantee : LiesWithin reach v.guarantee
  pub fdp : LiesWithin reach v.fdp
  pub fly : LiesWithin reach v.fly
  pub duties : LiesWithin reach v.duties
  pub away : LiesWithin reach v.away

-- what the begin or a duty adds to a part at most
abbrev pub share : AnchoredResource → ℕ
share r = unsigned_abs r.base_price + r.trip_rig * 2_147_483_648 + r.guarantee + 8_000_020_000

abbrev pub fits_in : AnchoredResource → ℕ → Type 0
fits_in r n = suc n * share r < 2 ^ 62

-- within the bound for a list of so many duties
abbrev pub is_ready : AnchoredResource → ℕ → PairingVector → Type 0
is_ready r n = AreWithin (suc n * share r)

abbrev pub may_board : PairingVector → Duty → Type 0
may_board v d = IsSound d × AreWithin (2 ^ 62) v
