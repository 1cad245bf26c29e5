use Rattle.crew_plan.proofs.Owned.{best-own}
use Rattle.crew_plan.proofs.laws.best_is_that_of_its_base.Goals as goal

pub returns : goal.returns
returns c = λ s t best checked sound is. best-own s t checked sound best is
