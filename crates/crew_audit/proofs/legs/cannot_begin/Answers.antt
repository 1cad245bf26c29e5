use Rattle.std.proofs.Common.{arith}
use Rattle.std.proofs.lemmas.Grind.{common_steps}
use Rattle.crew_audit.proofs.legs.cannot_begin.Goals as goal

pub overflow_cast-counted : goal.overflow_cast-counted
overflow_cast-counted c = grind (arith, common_steps)

pub table_b-requires : goal.table_b-requires
table_b-requires c = grind (arith, common_steps)
