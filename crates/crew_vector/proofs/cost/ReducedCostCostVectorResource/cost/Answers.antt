use Rattle.std.proofs.Common.{rules}
use Rattle.crew_vector.proofs.cost.ReducedCostCostVectorResource.cost.Goals as goal

pub returns : goal.returns
returns c = search rules
