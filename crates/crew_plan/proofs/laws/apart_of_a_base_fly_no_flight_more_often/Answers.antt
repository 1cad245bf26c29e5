use Rattle.crew_plan.proofs.Sharing.{flown-most}
use Rattle.crew_plan.specs.Cheapest.{IsShownOf}
use Rattle.crew_plan.proofs.laws.apart_of_a_base_fly_no_flight_more_often.Goals as goal

pub returns : goal.returns
returns c = λ s t base limit share flight pairings. flown-most (IsShownOf s t base) limit share flight pairings
