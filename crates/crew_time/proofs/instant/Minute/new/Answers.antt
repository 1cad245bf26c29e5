use Rattle.std.proofs.Common.{rules}
use Rattle.crew_time.proofs.instant.Minute.new.Goals as goal

pub returns-else-contains-clause-valid : goal.returns-else-contains-clause-valid
returns-else-contains-clause-valid c = search rules
