use Rattle.crew_plan.proofs.Owned.{own-first}
use Rattle.crew_plan.proofs.laws.first_of_the_cheapest_of_a_base_is_its_best.Goals as goal

pub returns : goal.returns
returns c = λ s t base limit pairings best sound some cheapest is. own-first s t sound base limit pairings best some cheapest is
