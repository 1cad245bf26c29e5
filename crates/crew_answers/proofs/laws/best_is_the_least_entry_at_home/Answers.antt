use Rattle.crew_answers.proofs.Cheapest.{entry-pairing, least-entry, no-entry}
use Rattle.crew_answers.proofs.laws.best_is_the_least_entry_at_home.Goals as goal

pub returns-clause-pairing : goal.returns-clause-pairing
returns-clause-pairing c = entry-pairing

pub returns-clause-best : goal.returns-clause-best
returns-clause-best c = λ s t front best range sound. least-entry s t range sound front best

pub returns-clause-none : goal.returns-clause-none
returns-clause-none c = λ s t front range sound. no-entry s t range sound front
