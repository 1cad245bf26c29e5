use Rattle.crew_plan.proofs.Sharing.{begins-more}
use Rattle.crew_plan.specs.Cheapest.{IsShown}
use Rattle.crew_plan.proofs.laws.apart_begin_those_up_to_more.Goals as goal

pub returns : goal.returns
returns c = λ s t limit more share a b. begins-more (IsShown s t) limit more share a b
