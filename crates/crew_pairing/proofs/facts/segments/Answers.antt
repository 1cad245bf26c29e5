use Rattle.std.proofs.Common.{arith}
use Rattle.std.proofs.lemmas.Grind.{common_steps}
use Rattle.crew_pairing.proofs.facts.segments.Goals as goal

pub returns-then-first : goal.returns-then-first
returns-then-first c = grind (arith, common_steps)

pub returns-else-first : goal.returns-else-first
returns-else-first c = grind (arith, common_steps)
