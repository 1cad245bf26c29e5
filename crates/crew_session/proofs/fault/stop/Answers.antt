use Rattle.std.proofs.Common.{rules}
use Rattle.crew_session.proofs.fault.stop.Goals as goal

pub returns-in-Some : goal.returns-in-Some
returns-in-Some c = search rules
