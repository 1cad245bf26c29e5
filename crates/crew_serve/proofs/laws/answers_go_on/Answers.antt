use Rattle.crew_serve.proofs.TalkFacts.{converses-goes}
use Rattle.crew_serve.proofs.laws.answers_go_on.Goals as goal

pub returns : goal.returns
returns c = λ s name comings a b out h. converses-goes s name comings a b out h
