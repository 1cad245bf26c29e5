use Rattle.std.proofs.Common.{rules}
use Rattle.crew_audit.proofs.chain.partial_from.Goals as goal

pub returns : goal.returns
returns c = search rules
