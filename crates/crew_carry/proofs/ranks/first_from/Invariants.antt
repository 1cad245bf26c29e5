use Rattle.std.proofs.Common.{◌≡◌, ℕ, ◌-◌, ◌<◌, ◌≤◌, Some, length}
use Rattle.std.specs.Prelude.{slice_get}
use Rattle.std.specs.declared.cmp.Ordering.TheVariants.{Less}
use Rattle.crew_pairing.specs.Keys.{key_cmp}
use Rattle.crew_pairing.specs.declared.duty.Duty.{Duty}
use Rattle.crew_carry.proofs.ranks.first_from.Given as goal

-- what has been passed is less
abbrev pub invariant-loop-at : goal.invariant-loop-at
invariant-loop-at l =
    (l.fn.from ≤ l.at) × (l.at ≤ length l.ys)
    × ((k : ℕ) (y : Duty) → l.fn.from ≤ k → k < l.at → slice_get l.ys k ≡ Some y → key_cmp y.key l.x.key ≡ Less)

abbrev pub decreases-loop-at : goal.decreases-loop-at
decreases-loop-at l = length l.ys - l.at
