use Rattle.std.proofs.Common.{rules}
use Rattle.crew_records.proofs.command.read_command.Goals as goal

pub returns-in-Err-clause-value : goal.returns-in-Err-clause-value
returns-in-Err-clause-value c = search rules
