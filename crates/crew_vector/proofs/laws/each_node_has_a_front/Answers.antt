use Rattle.crew_vector.proofs.Feeding.{some-front}
use Rattle.crew_vector.proofs.laws.each_node_has_a_front.Goals as goal

pub returns : goal.returns
returns c = λ s t base price d checked sound legal. some-front s t base price checked sound d legal
