use Rattle.std.proofs.Common.{◌≡◌, ◌≤◌, ℕ, length, take}
use Rattle.crew_pool.specs.Counted.{boarded_labels}
use Rattle.crew_pool.proofs.view.count_boarding.Given as goal

-- the count is of the labels so far, and no more than those
abbrev pub invariant-loop-label : goal.invariant-loop-label
invariant-loop-label g l =
    ((duty : ℕ) → l.count ≡ length (boarded_labels (λ v. g.R.Staged.boards l.resource v l.item) duty (take l.label-index l.labels)))
    × (l.count ≤ l.label-index)
