use Rattle.std.proofs.Common.{rules}
use Rattle.crew_command.proofs.program.command.Goals as goal

pub returns-in-Err-clause-ends : goal.returns-in-Err-clause-ends
returns-in-Err-clause-ends g c = search rules
