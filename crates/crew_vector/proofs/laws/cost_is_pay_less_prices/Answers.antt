use Rattle.crew_vector.proofs.Fitting.{cost-is}
use Rattle.crew_vector.proofs.laws.cost_is_pay_less_prices.Goals as goal

pub returns : goal.returns
returns c = cost-is
