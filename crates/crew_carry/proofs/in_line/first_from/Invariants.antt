use Rattle.std.proofs.Common.{◌≡◌, ℕ, ◌-◌, ◌<◌, ◌≤◌, Some, length}
use Rattle.std.specs.Prelude.{slice_get}
use Rattle.std.specs.declared.cmp.Ordering.TheVariants.{Less}
use Rattle.crew_carry.proofs.in_line.first_from.Given as goal

-- what has been passed is less
abbrev pub invariant-loop-at : goal.invariant-loop-at
invariant-loop-at g l =
    (l.fn.from ≤ l.at) × (l.at ≤ length l.ys)
    × ((k : ℕ) (y : g.row.X.Denot) → l.fn.from ≤ k → k < l.at → slice_get l.ys k ≡ Some y → g.X.InLine.order y l.x ≡ Less)

abbrev pub decreases-loop-at : goal.decreases-loop-at
decreases-loop-at g l = length l.ys - l.at
