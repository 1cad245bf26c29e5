use Rattle.crew_plan.proofs.Sharing.{with-room}
use Rattle.crew_plan.specs.Cheapest.{IsShown}
use Rattle.crew_plan.proofs.laws.apart_with_room_are_the_cheapest.Goals as goal

pub returns : goal.returns
returns c = λ s t limit share a b apart cheapest few. with-room (IsShown s t) limit share a b few apart cheapest
