use Rattle.std.proofs.Common.{take, map}
use Rattle.crew_front.specs.Machinery.Grades.{HoldSame}
use Rattle.crew_front.proofs.front.bucketed.Given as goal

abbrev pub invariant-loop-entry : goal.invariant-loop-entry
invariant-loop-entry g l = HoldSame (map (λ e. e.0) (take l.entry-index l.entries)) l.buckets
