use Rattle.crew_answers.proofs.Cheapest.{best-least, clean-below}
use Rattle.crew_answers.proofs.laws.best_costs_least.Goals as goal

pub returns-clause-clean : goal.returns-clause-clean
returns-clause-clean c = λ s t p range sound. clean-below s t range sound p

pub returns-clause-least : goal.returns-clause-least
returns-clause-least c = λ s t best p range sound. best-least s t range sound best p
