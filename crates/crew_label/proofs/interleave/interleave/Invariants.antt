use Rattle.std.proofs.Common.{◌≤◌, ◌⊎◌, ◌+◌, ◌-◌, length, drop}
use Rattle.crew_resource.specs.Members.{Member}
use Rattle.crew_label.specs.Machinery.Merges.{IsMerging}
use Rattle.crew_label.specs.Machinery.Seeing.{labels_of}
use Rattle.crew_label.specs.declared.seen.Seen.{Seen}
use Rattle.crew_label.proofs.interleave.interleave.Given as goal

-- what comes before the places stands in the whole, and what comes after them is left
abbrev pub invariant-loop-i : goal.invariant-loop-i
invariant-loop-i g l =
    (l.i ≤ length l.one) × (l.j ≤ length l.two)
    × IsMerging g.R.Value.Ord.cmp (labels_of l.one) (labels_of l.two) (drop l.i (labels_of l.one)) (drop l.j (labels_of l.two)) (labels_of l.whole.items)
    × ((s : Seen g.row.R-Value.Denot) → Member l.whole.items s → Member l.one s ⊎ Member l.two s)

abbrev pub decreases-loop-i : goal.decreases-loop-i
decreases-loop-i g l = (length l.one - l.i) + (length l.two - l.j)
