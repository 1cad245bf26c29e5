use Rattle.std.proofs.Common.{ap}
use Rattle.crew_anchor.specs.Stages.{anchored_board, anchored_idle, anchored_resource}
use Rattle.crew_anchor.proofs.Lists.{near-is}
use Rattle.crew_anchor.proofs.laws.stages_are_those_of_anchored_vectors.Goals as goal

pub returns-clause-idle : goal.returns-clause-idle
returns-clause-idle c = λ s price g h. ap (anchored_idle (anchored_resource s price)) (near-is g.report h)

pub returns-clause-start : goal.returns-clause-start
returns-clause-start c = λ s price d h. ap (λ z. anchored_board (anchored_resource s price) (anchored_idle (anchored_resource s price) z) d) (near-is d.report h)
