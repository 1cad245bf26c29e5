use Rattle.crew_vector.proofs.Cheapest.{best-least, clean-below}
use Rattle.crew_vector.proofs.laws.best_costs_least.Goals as goal

pub returns-clause-clean : goal.returns-clause-clean
returns-clause-clean c = clean-below

pub returns-clause-least : goal.returns-clause-least
returns-clause-least c = best-least
