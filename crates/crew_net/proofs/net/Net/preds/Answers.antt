use Rattle.std.proofs.Common.{rules}
use Rattle.crew_net.proofs.net.Net.preds.Goals as goal

pub returns-in_ok-before-in-Some : goal.returns-in_ok-before-in-Some
returns-in_ok-before-in-Some c = search rules
