use Rattle.std.proofs.Common.{◌≡◌, false, take}
use Rattle.std.specs.List.{list_any}
use Rattle.crew_label.specs.Machinery.Indexes.{finds_entry, test_at}
use Rattle.crew_label.proofs.index.in_entries.Given as goal

abbrev pub invariant-loop-entry : goal.invariant-loop-entry
invariant-loop-entry g l =
    list_any (finds_entry (test_at g.R.Resource.below g.R.Forgets.same_sums (g.T.Trails.trail l.asked.trails.now) l.asked.rule l.asked.others.now l.asked.label.now) l.asked.most.now) (take l.entry-index l.entries) ≡ false
