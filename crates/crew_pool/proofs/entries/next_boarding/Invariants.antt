use Rattle.std.proofs.Common.{◌≡◌, length}
use Rattle.std.specs.Slice.Iter.{iter_rest}
use Rattle.crew_resource.specs.Members.{Member}
use Rattle.crew_pool.specs.Counted.{boarded_labels}
use Rattle.crew_pool.specs.declared.label_walk.LabelWalk.{LabelWalk}
use Rattle.crew_pool.proofs.entries.next_boarding.Given as goal

-- none of the labels that were passed boards
abbrev pub invariant-loop-label : goal.invariant-loop-label
invariant-loop-label g l =
    (boarded_labels (λ v. g.R.Staged.boards l.resource v l.item) l.duty (iter_rest l.fn.labels) ≡ boarded_labels (λ v. g.R.Staged.boards l.resource v l.item) l.duty (iter_rest l.labels))
    × ((a : g.row.R-Value.Denot × LabelWalk) → Member (iter_rest l.labels) a → Member (iter_rest l.fn.labels) a)

abbrev pub decreases-loop-label : goal.decreases-loop-label
decreases-loop-label g l = length (iter_rest l.labels)
