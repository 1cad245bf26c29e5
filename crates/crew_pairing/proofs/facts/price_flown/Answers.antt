use Rattle.std.proofs.Common.{rules}
use Rattle.crew_pairing.proofs.facts.price_flown.Goals as goal

pub returns-then-leg-clause-value : goal.returns-then-leg-clause-value
returns-then-leg-clause-value c = search rules
