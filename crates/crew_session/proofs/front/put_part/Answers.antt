use Rattle.std.proofs.Common.{arith}
use Rattle.std.proofs.lemmas.Grind.{common_steps}
use Rattle.crew_session.proofs.front.put_part.Goals as goal

pub returns : goal.returns
returns c = grind (arith, common_steps)
