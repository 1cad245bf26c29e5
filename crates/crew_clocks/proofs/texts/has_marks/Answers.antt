use Rattle.std.proofs.Common.{arith}
use Rattle.std.proofs.lemmas.Grind.{common_steps}
use Rattle.crew_clocks.proofs.texts.has_marks.Goals as goal

pub returns-then-text-eq84-clause-value : goal.returns-then-text-eq84-clause-value
returns-then-text-eq84-clause-value c = grind (arith, common_steps)

pub returns-else-text-eq84-clause-value : goal.returns-else-text-eq84-clause-value
returns-else-text-eq84-clause-value c = grind (arith, common_steps)
