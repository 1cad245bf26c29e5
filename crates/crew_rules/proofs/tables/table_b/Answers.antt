use Rattle.std.proofs.Common.{rules}
use Rattle.crew_rules.proofs.tables.table_b.Goals as goal

pub returns : goal.returns
returns c = search rules
