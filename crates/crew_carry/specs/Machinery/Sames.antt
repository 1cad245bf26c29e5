-- Duties that both networks have, by rank.
use Rattle.std.specs.Prelude.{◌≡◌, ◌<◌, ◌^◌, ℕ, List, Option, Some, length, slice_get}
use Rattle.crew_pairing.specs.Duties.{RiseByKey}
use Rattle.crew_pairing.specs.declared.duty.Duty.{Duty}

-- by rank of the old duties, the rank of the same duty among the new ones, with all its facts
pub record AreSameDuties (olds news : List Duty) (same : List (Option ℕ)) : Type 0 where
  pub there : (r k : ℕ) → slice_get same r ≡ Some (Some k) → slice_get olds r ≡ slice_get news k
  pub all : RiseByKey olds → RiseByKey news → length news < 2 ^ 32 → (r k : ℕ) (d : Duty)
      → slice_get olds r ≡ Some d → slice_get news k ≡ Some d → slice_get same r ≡ Some (Some k)
