use Rattle.crew_step.proofs.Values.{entry-value}
use Rattle.crew_step.proofs.laws.entries_of_fronts_are_values_of_their_walks.Goals as goal

pub returns : goal.returns
returns c = entry-value
