use Rattle.crew_plan.proofs.Sharing.{flown-most}
use Rattle.crew_plan.specs.Cheapest.{IsShown}
use Rattle.crew_plan.proofs.laws.apart_fly_no_flight_more_often.Goals as goal

pub returns : goal.returns
returns c = λ s t limit share flight pairings. flown-most (IsShown s t) limit share flight pairings
