use Rattle.std.proofs.Common.{rules}
use Rattle.crew_command.proofs.program.run_task.Goals as goal

pub returns-in-Ok : goal.returns-in-Ok
returns-in-Ok g c = search rules

pub returns-in-Err : goal.returns-in-Err
returns-in-Err g c = search rules
