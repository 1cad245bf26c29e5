use Rattle.std.proofs.Common.{rules}
use Rattle.crew_command.proofs.program.run_words.Goals as goal

pub returns-in-Ok : goal.returns-in-Ok
returns-in-Ok g c = search rules
