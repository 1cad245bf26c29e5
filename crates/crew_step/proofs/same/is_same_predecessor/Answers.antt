use Rattle.std.proofs.Common.{rules}
use Rattle.crew_step.proofs.same.is_same_predecessor.Goals as goal

pub returns-then-is_same_duty : goal.returns-then-is_same_duty
returns-then-is_same_duty c = search rules
