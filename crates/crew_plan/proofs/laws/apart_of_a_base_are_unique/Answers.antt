use Rattle.crew_plan.proofs.Sharing.{one-apart}
use Rattle.crew_plan.specs.Cheapest.{IsShownOf}
use Rattle.crew_plan.proofs.laws.apart_of_a_base_are_unique.Goals as goal

pub returns : goal.returns
returns c = λ s t base limit share a b. one-apart (IsShownOf s t base) limit share a b
