use Rattle.std.proofs.Common.{rules}
use Rattle.crew_solve.proofs.cheapest_so_far.ByCostOrd.cmp.Goals as goal

pub returns : goal.returns
returns c = search rules
