use Rattle.std.proofs.Common.{rules}
use Rattle.crew_resource.proofs.both.BothStaged.board.Goals as goal

pub returns-in_err-second : goal.returns-in_err-second
returns-in_err-second g c = search rules

pub returns : goal.returns
returns g c = search rules
