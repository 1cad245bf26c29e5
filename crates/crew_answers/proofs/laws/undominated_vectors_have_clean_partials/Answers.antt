use Rattle.crew_answers.proofs.PlainNodes.{each-clean}
use Rattle.crew_answers.proofs.laws.undominated_vectors_have_clean_partials.Goals as goal

pub returns : goal.returns
returns c = λ s t base price d v range sound. each-clean s t base price range sound d v
