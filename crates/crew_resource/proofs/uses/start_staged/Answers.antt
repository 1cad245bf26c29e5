use Rattle.std.proofs.Common.{rules}
use Rattle.crew_resource.proofs.uses.start_staged.Goals as goal

pub returns-clause-value : goal.returns-clause-value
returns-clause-value g c = search rules
