use Rattle.std.proofs.Common.{rules}
use Rattle.crew_records.specs.Commands.{cheapest_command}
use Rattle.crew_records.proofs.command.cheapest_command.Goals as goal

pub returns-clause-value : goal.returns-clause-value
unfolding cheapest_command
returns-clause-value c = search rules
