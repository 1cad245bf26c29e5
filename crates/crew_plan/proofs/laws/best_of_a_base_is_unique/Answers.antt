use Rattle.crew_plan.proofs.Owned.{one-best-of}
use Rattle.crew_plan.proofs.laws.best_of_a_base_is_unique.Goals as goal

pub returns : goal.returns
returns c = λ s t base a b sound. one-best-of s t sound base a b
