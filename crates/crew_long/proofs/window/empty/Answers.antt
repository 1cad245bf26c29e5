use Rattle.crew_long.proofs.Taken.{empty_recent}
use Rattle.crew_long.proofs.window.empty.Goals as goal

pub returns : goal.returns
returns c = empty_recent c.new.result _ c.new.ensures
