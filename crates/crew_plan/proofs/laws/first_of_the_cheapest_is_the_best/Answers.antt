use Rattle.crew_plan.proofs.Below.{best-first}
use Rattle.crew_plan.proofs.laws.first_of_the_cheapest_is_the_best.Goals as goal

pub returns : goal.returns
returns c = λ s t limit pairings best checked sound some cheapest is. best-first s t checked sound limit pairings best some cheapest is
