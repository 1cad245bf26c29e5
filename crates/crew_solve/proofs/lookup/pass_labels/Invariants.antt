use Rattle.std.proofs.Common.{length}
use Rattle.std.specs.Slice.Iter.{iter_rest}
use Rattle.crew_resource.specs.Members.{Member}
use Rattle.crew_solve.proofs.Lent.{Entry}
use Rattle.crew_solve.specs.Machinery.Lent.{MayBeShown, shown_at}
use Rattle.crew_solve.proofs.lookup.pass_labels.Given as goal

-- the wanted entry is none of those that were passed, which leave the others
abbrev pub invariant-loop-label : goal.invariant-loop-label
invariant-loop-label l = record {
  left : Member (shown_at l.sweep l.duty l.rank (iter_rest l.fn.labels)) l.wanted → Member (shown_at l.sweep l.duty l.rank (iter_rest l.labels)) l.wanted;
  among : (e : Entry) → Member (shown_at l.sweep l.duty l.rank (iter_rest l.labels)) e → Member (shown_at l.sweep l.duty l.rank (iter_rest l.fn.labels)) e;
  may : MayBeShown l.sweep l.duty l.rank (iter_rest l.labels);
}

abbrev pub decreases-loop-label : goal.decreases-loop-label
decreases-loop-label l = length (iter_rest l.labels)
