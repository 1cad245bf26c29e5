use Rattle.std.proofs.Common.{arith}
use Rattle.crew_audit.proofs.search.list_one.Goals as goal

pub returns-then-taken-scope-clause-over : goal.returns-then-taken-scope-clause-over
returns-then-taken-scope-clause-over bound c = λ e. omega (arith, c.if-taken-scope.true, c.taken.ensures)
