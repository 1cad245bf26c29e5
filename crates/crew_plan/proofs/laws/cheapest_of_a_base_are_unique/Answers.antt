use Rattle.crew_plan.proofs.OneList.{one-list}
use Rattle.crew_plan.specs.Cheapest.{IsShownOf}
use Rattle.crew_plan.proofs.laws.cheapest_of_a_base_are_unique.Goals as goal

pub returns : goal.returns
returns c = λ s t base limit a b. one-list (IsShownOf s t base) limit a b
