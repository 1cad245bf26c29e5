use Rattle.std.proofs.Common.{rules}
use Rattle.crew_rules.proofs.pay.duty_pay.Goals as goal

pub returns : goal.returns
returns c = search rules
