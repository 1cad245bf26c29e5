use Rattle.crew_plan.proofs.Below.{one-below}
use Rattle.crew_plan.proofs.laws.fronts_show_one_that_costs_no_more.Goals as goal

pub returns : goal.returns
returns c = λ s t p checked sound legal. one-below s t checked sound p legal
