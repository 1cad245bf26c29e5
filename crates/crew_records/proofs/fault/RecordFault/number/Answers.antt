use Rattle.std.proofs.Common.{rules}
use Rattle.crew_records.proofs.fault.RecordFault.number.Goals as goal

pub returns-in-NoZone : goal.returns-in-NoZone
returns-in-NoZone c = search rules
