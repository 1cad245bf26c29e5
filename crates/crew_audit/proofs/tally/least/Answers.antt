use Rattle.std.proofs.Common.{rules}
use Rattle.crew_audit.proofs.tally.least.Goals as goal

pub returns-in-Some : goal.returns-in-Some
returns-in-Some c = search rules
