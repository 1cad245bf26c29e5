use Rattle.crew_plan.proofs.OneList.{one-list}
use Rattle.crew_plan.specs.Cheapest.{IsShown}
use Rattle.crew_plan.proofs.laws.cheapest_are_unique.Goals as goal

pub returns : goal.returns
returns c = λ s t limit a b. one-list (IsShown s t) limit a b
