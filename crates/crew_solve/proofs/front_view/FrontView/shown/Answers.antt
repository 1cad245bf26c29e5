use Rattle.std.proofs.Common.{subst}
use Rattle.crew_solve.proofs.Entered.{entries-rise}
use Rattle.crew_vector.specs.Fronts.{RiseByVector}
use Rattle.crew_solve.proofs.front_view.FrontView.shown.Goals as goal

pub returns-clause-rises : goal.returns-clause-rises
returns-clause-rises c = let f = c.self.inside in subst RiseByVector c.self.view_is (entries-rise f.sweep.now f.duty.now.release f.view c.self.invariant.lent.apart)
