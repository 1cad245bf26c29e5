use Rattle.crew_solve.proofs.Lent.{after-none}
use Rattle.crew_solve.proofs.front_view.FrontView.iter.Goals as goal

pub returns : goal.returns
returns c = after-none c.args.self.now
