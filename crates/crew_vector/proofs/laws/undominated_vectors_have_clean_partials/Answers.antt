use Rattle.crew_vector.proofs.Nodes.{each-clean}
use Rattle.crew_vector.proofs.laws.undominated_vectors_have_clean_partials.Goals as goal

pub returns : goal.returns
returns c = λ s t base price d v checked sound u. each-clean s t base price checked sound d v u
