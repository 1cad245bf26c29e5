use Rattle.crew_answers.proofs.Unique.{same-front, same-listed}
use Rattle.crew_answers.proofs.laws.fronts_are_unique.Goals as goal

pub returns-clause-entries : goal.returns-clause-entries
returns-clause-entries c = same-front

pub returns-clause-listed : goal.returns-clause-listed
returns-clause-listed c = same-listed
