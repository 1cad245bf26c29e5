use Rattle.crew_vector.proofs.OneBest.{one-best}
use Rattle.crew_vector.proofs.laws.best_is_unique.Goals as goal

pub returns : goal.returns
returns c = λ s t a b sound. one-best s t sound a b
