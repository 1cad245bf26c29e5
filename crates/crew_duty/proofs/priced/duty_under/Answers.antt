use Rattle.std.proofs.Common.{rules}
use Rattle.crew_duty.proofs.priced.duty_under.Goals as goal

pub returns : goal.returns
returns c = search rules
