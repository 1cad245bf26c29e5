use Rattle.crew_answers.proofs.OneBest.{one-best}
use Rattle.crew_answers.proofs.laws.best_is_unique.Goals as goal

pub returns : goal.returns
returns c = one-best
