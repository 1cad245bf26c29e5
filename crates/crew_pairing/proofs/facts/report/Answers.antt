use Rattle.std.proofs.Common.{rules}
use Rattle.crew_pairing.proofs.facts.report.Goals as goal

pub returns-clause-value : goal.returns-clause-value
returns-clause-value c = search rules
