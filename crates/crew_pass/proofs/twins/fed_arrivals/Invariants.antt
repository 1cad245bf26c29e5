use Rattle.crew_pass.proofs.Twinned.{AreSoFar, IsFedWhere}
use Rattle.crew_pass.proofs.twins.fed_arrivals.Given as goal

abbrev pub invariant-loop-place : goal.invariant-loop-place
invariant-loop-place l = AreSoFar (IsFedWhere l.net l.earlier l.duties l.arrivals) l.place l.fed.items
