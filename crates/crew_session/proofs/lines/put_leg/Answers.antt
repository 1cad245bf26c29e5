use Rattle.std.proofs.Common.{arith}
use Rattle.std.proofs.lemmas.Grind.{common_steps}
use Rattle.crew_session.proofs.lines.put_leg.Goals as goal

pub returns-in_ok-push : goal.returns-in_ok-push
returns-in_ok-push c = grind (arith, common_steps)

pub returns-else-is_deadhead : goal.returns-else-is_deadhead
returns-else-is_deadhead c = grind (arith, common_steps)
