use Rattle.crew_plan.proofs.Sharing.{one-apart}
use Rattle.crew_plan.specs.Cheapest.{IsShown}
use Rattle.crew_plan.proofs.laws.apart_are_unique.Goals as goal

pub returns : goal.returns
returns c = λ s t limit share a b. one-apart (IsShown s t) limit share a b
