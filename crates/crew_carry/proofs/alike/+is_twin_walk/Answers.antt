use Rattle.std.proofs.Common.{arith}
use Rattle.std.proofs.lemmas.Grind.{common_steps}
use Rattle.crew_carry.proofs.alike.+is_twin_walk.Goals as goal

pub returns-then-found-duty : goal.returns-then-found-duty
returns-then-found-duty t c = grind (arith, common_steps)

pub returns-else-found-duty : goal.returns-else-found-duty
returns-else-found-duty t c = grind (arith, common_steps)
