use Rattle.std.proofs.Common.{rules}
use Rattle.crew_net.proofs.events.leave_at.Goals as goal

pub returns-clause-value : goal.returns-clause-value
returns-clause-value c = search rules

pub returns-clause-named : goal.returns-clause-named
returns-clause-named c = search rules
