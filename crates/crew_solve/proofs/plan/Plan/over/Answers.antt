use Rattle.std.proofs.Common.{IfSome, subst}
use Rattle.crew_net.specs.Nets.{Net}
use Rattle.crew_solve.specs.Machinery.Planned.{IsPast}
use Rattle.crew_net.specs.Positions.{ArePositions}
use Rattle.crew_solve.proofs.plan.Plan.over.Goals as goal

pub invariant_of-result : goal.invariant_of-result
invariant_of-result c = record {
  timetable = c.requires.over.0;
  over = c.requires.over.1;
  priced = c.requires.over.2;
  by_rank = subst (λ (n : Net). ArePositions n c.in_ok-positions.positions.items) c.deref.ensures c.in_ok-positions.ensures;
  beside = subst (λ (n : Net). IfSome c.in_ok-past.past (IsPast n)) c.deref-2.ensures c.in_ok-past.ensures;
}
