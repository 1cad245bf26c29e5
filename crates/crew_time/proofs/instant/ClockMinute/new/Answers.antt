use Rattle.std.proofs.Common.{rules}
use Rattle.crew_time.proofs.instant.ClockMinute.new.Goals as goal

pub returns-else-value-lt1440-clause-valid : goal.returns-else-value-lt1440-clause-valid
returns-else-value-lt1440-clause-valid c = search rules
