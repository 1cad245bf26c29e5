use Rattle.crew_vector.proofs.Cheapest.{entry-pairing, least-entry, no-entry}
use Rattle.crew_vector.proofs.laws.best_is_the_least_entry_at_home.Goals as goal

pub returns-clause-pairing : goal.returns-clause-pairing
returns-clause-pairing c = entry-pairing

pub returns-clause-best : goal.returns-clause-best
returns-clause-best c = least-entry

pub returns-clause-none : goal.returns-clause-none
returns-clause-none c = no-entry
