use Rattle.std.proofs.Common.{rules}
use Rattle.crew_rules.proofs.tables.limits_from.Goals as goal

pub returns-in-720-to-779 : goal.returns-in-720-to-779
returns-in-720-to-779 c = search rules
