use Rattle.std.proofs.Common.{◌∷◌}
use Rattle.crew_vector.proofs.Fitting.{cost-is}
use Rattle.crew_answers.proofs.Vectors.{costs-no-more}
use Rattle.crew_answers.proofs.laws.cost_is_pay_less_prices.Goals as goal

pub returns-clause-cost : goal.returns-clause-cost
returns-clause-cost c = λ s price first others. cost-is s price (first ∷ others)

pub returns-clause-order : goal.returns-clause-order
returns-clause-order c = costs-no-more
