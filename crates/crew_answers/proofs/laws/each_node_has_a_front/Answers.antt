use Rattle.crew_answers.proofs.PlainNodes.{node-front}
use Rattle.crew_answers.proofs.laws.each_node_has_a_front.Goals as goal

pub returns : goal.returns
returns c = λ s t base price d range sound. node-front s t base price range sound d
