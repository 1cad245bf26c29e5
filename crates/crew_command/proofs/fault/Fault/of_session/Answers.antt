use Rattle.std.proofs.Common.{rules}
use Rattle.crew_command.proofs.fault.Fault.of_session.Goals as goal

pub returns-in-Read : goal.returns-in-Read
returns-in-Read c = search rules
