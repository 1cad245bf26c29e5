use Rattle.std.proofs.Common.{arith}
use Rattle.std.proofs.lemmas.Grind.{common_steps}
use Rattle.crew_flights.proofs.entries.Folding.take.Goals as goal

pub returns-then-from-turn-clause-ok : goal.returns-then-from-turn-clause-ok
returns-then-from-turn-clause-ok c = grind (arith, common_steps)

pub returns-clause-ok : goal.returns-clause-ok
returns-clause-ok c = grind (arith, common_steps)
