use Rattle.std.proofs.Common.{rules}
use Rattle.crew_vector.proofs.value.value_of_list.Goals as goal

pub returns : goal.returns
returns c = search rules
