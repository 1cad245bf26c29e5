use Rattle.std.proofs.Common.{arith}
use Rattle.std.proofs.lemmas.Grind.{common_steps}
use Rattle.crew_pairing.proofs.key.Key.copy.Goals as goal

pub returns : goal.returns
returns c = grind (arith, common_steps)
